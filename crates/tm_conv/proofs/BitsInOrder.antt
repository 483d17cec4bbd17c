-- The bits of octets, one after another.
use Rattle.std.proofs.Common.{◌≡◌, ℕ, zero, suc, ◌+◌, ◌-◌, ◌*◌, ◌/◌, ◌%◌, ◌^◌, ◌<◌, ◌==◌, Bool, false, List, [], ◌∷◌, ◌++◌, length, take, get_or, refl, sym, ap, ◌∙◌, arith, append_assoc, bit_and}
use Rattle.std.proofs.lemmas.List.{take_more, map-append}
use Rattle.std.proofs.lemmas.Nat.{and_mask}
use Rattle.tm_base.specs.Bits.{bits_of, low_bits}
use Rattle.tm_base.proofs.Packing.{length-bits_of}
use Rattle.tm_conv.specs.Encoding.{Encoding, level, levels, sent_for}

bit-at : (octets : List ℕ) (k : ℕ) → k < 8 * length octets → get_or (bits_of octets) k false
    ≡ (get_or octets (k / 8) 0 / 2 ^ (7 - k % 8) % 2 == 1)
unfolding low_bits
bit-at [] k within = absurd (omega arith)
bit-at (octet ∷ octets) zero within = refl
bit-at (octet ∷ octets) (suc zero) within = refl
bit-at (octet ∷ octets) (suc (suc zero)) within = refl
bit-at (octet ∷ octets) (suc (suc (suc zero))) within = refl
bit-at (octet ∷ octets) (suc (suc (suc (suc zero)))) within = refl
bit-at (octet ∷ octets) (suc (suc (suc (suc (suc zero))))) within = refl
bit-at (octet ∷ octets) (suc (suc (suc (suc (suc (suc zero)))))) within = refl
bit-at (octet ∷ octets) (suc (suc (suc (suc (suc (suc (suc zero))))))) within = refl
bit-at (octet ∷ octets) (suc (suc (suc (suc (suc (suc (suc (suc k)))))))) within =
    let place : suc (k / 8) ≡ suc (suc (suc (suc (suc (suc (suc (suc k))))))) / 8 = omega arith in
    let digit : k % 8 ≡ suc (suc (suc (suc (suc (suc (suc (suc k))))))) % 8 = omega arith in
    bit-at octets k (omega arith) ∙ (λ i. get_or (octet ∷ octets) (place i) 0 / 2 ^ (7 - digit i) % 2 == 1)

-- one bit more
pub bits-push : (octets : List ℕ) (k : ℕ) → k < 8 * length octets
    → take (k + 1) (bits_of octets) ≡ take k (bits_of octets)
    ++ (bit_and (get_or octets (k / 8) 0 / 2 ^ (7 - k % 8)) 1 == 1) ∷ []
bits-push octets k within =
    take_more (bits_of octets) k false (omega (arith, length-bits_of octets))
    ∙ ap (λ bit. take k (bits_of octets) ++ bit ∷ []) (bit-at octets k within
    ∙ ap (λ n. n == 1) (sym (and_mask (get_or octets (k / 8) 0 / 2 ^ (7 - k % 8)) 1)))

-- the bits so far, one more
pub given-more : (given bits : List Bool) (k : ℕ) (bit : Bool) → take (k + 1) bits ≡ take k bits ++ bit ∷ []
    → (given ++ take k bits) ++ bit ∷ [] ≡ given ++ take (k + 1) bits
given-more given bits k bit more = append_assoc given (take k bits) (bit ∷ []) ∙ ap (λ l. given ++ l) (sym more)

-- the octets of the symbols so far, one step more
pub levels-more : (before here : Encoding) (low : ℕ) (given bits : List Bool) (k : ℕ) (bit : Bool)
    (symbols done stored : List ℕ) → here.rate ≡ before.rate → here.invert ≡ before.invert
    → take (k + 1) bits ≡ take k bits ++ bit ∷ []
    → sent_for here.rate here.invert ((given ++ take k bits) ++ bit ∷ [])
    ≡ sent_for here.rate here.invert (given ++ take k bits) ++ symbols
    → levels low (sent_for before.rate before.invert (given ++ take k bits))
    ≡ levels low (sent_for before.rate before.invert given) ++ done
    → stored ≡ done ++ levels low symbols
    → levels low (sent_for before.rate before.invert (given ++ take (k + 1) bits))
    ≡ levels low (sent_for before.rate before.invert given) ++ stored
levels-more before here low given bits k bit symbols done stored rate invert more sent so_far is =
    let prefix = given ++ take k bits in
    let first = levels low (sent_for before.rate before.invert given) in
    let here_sent : sent_for before.rate before.invert (prefix ++ bit ∷ [])
    ≡ sent_for before.rate before.invert prefix ++ symbols =
    (λ i. sent_for (sym rate i) (sym invert i) (prefix ++ bit ∷ [])) ∙ sent
    ∙ (λ i. sent_for (rate i) (invert i) prefix ++ symbols) in
    ap (λ l. levels low (sent_for before.rate before.invert l)) (sym (given-more given bits k bit more))
    ∙ ap (levels low) here_sent
    ∙ map-append (level low) (sent_for before.rate before.invert prefix) symbols
    ∙ ap (λ l. l ++ levels low symbols) so_far
    ∙ append_assoc first done (levels low symbols)
    ∙ ap (λ l. first ++ l) (sym is)
