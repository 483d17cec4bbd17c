-- Octets whose bits are complemented.
use Rattle.std.proofs.Common.{◌≡◌, ℕ, zero, suc, ◌+◌, ◌-◌, ◌*◌, ◌/◌, ◌%◌, ◌^◌, ◌<◌, ◌==◌, Bool, true, false, List, [], ◌∷◌, ◌++◌, length, map, get_or, refl, sym, ap, ◌∙◌, arith}
use Rattle.std.proofs.lemmas.List.{map-append}
use Rattle.std.proofs.lemmas.List.Elements.{All-cons}
use Rattle.tm_base.specs.Bits.{low_bits, bits_of, bits_of_octet, bit_number, octets_of, AreOctets}
use Rattle.tm_base.proofs.Packing.{low_bits-zero, low_bits-push, bit_number-odd, octets_of-bits_of, AreOctets-rest}
use Rattle.tm_config.specs.Configuration.{Configuration}
use Rattle.tm_codeblock.specs.Masked.{masked}
use Rattle.tm_sync.specs.Bits.{flip, complement, in_polarity}
use Rattle.tm_codeblock.specs.ReceivedCodeblock.{codeblock_in}

flip-number : (b : Bool) → bit_number (flip b) + bit_number b ≡ 1
flip-number true = refl
flip-number false = refl

-- the digits of what is left of a number below a power of two
flipped : (count x : ℕ) → x < 2 ^ count → low_bits count (2 ^ count - 1 - x) ≡ complement (low_bits count x)
flipped zero x small = low_bits-zero (2 ^ 0 - 1 - x) ∙ ap complement (sym (low_bits-zero x))
flipped (suc count) x small =
    let h : ℕ = x / 2 in
    let b : Bool = x % 2 == 1 in
    let odd : bit_number b ≡ x % 2 = bit_number-odd x in
    let complemented = flip-number b in
    let twice : 2 ^ suc count ≡ 2 * 2 ^ count = omega arith in
    let below : h < 2 ^ count = omega (arith, twice, small) in
    let first : x ≡ h * 2 + bit_number b = omega (arith, odd) in
    let second : 2 ^ suc count - 1 - x ≡ (2 ^ count - 1 - h) * 2 + bit_number (flip b) =
    omega (arith, odd, complemented, twice, small, below) in
    ap (low_bits (suc count)) second ∙ low_bits-push count (2 ^ count - 1 - h) (flip b)
    ∙ ap (λ l. l ++ flip b ∷ []) (flipped count h below)
    ∙ sym (map-append flip (low_bits count h) (b ∷ []))
    ∙ ap complement (sym (ap (low_bits (suc count)) first ∙ low_bits-push count h b))

-- each octet's bits are complemented
abbrev pub all_complemented : List ℕ → List ℕ
all_complemented octets = map (λ x. 255 - x) octets

complemented-bits : (octets : List ℕ) → AreOctets octets → bits_of (all_complemented octets)
    ≡ complement (bits_of octets)
complemented-bits [] are = refl
complemented-bits (x ∷ octets) are =
    (λ i. flipped 8 x (are 0 0 (omega arith)) i ++ complemented-bits octets (AreOctets-rest x octets are) i)
    ∙ sym (map-append flip (bits_of_octet x) (bits_of octets))

complemented-octets : (octets : List ℕ) → AreOctets (all_complemented octets)
complemented-octets [] = λ k d within. absurd (omega arith)
complemented-octets (x ∷ octets) =
    All-cons (λ octet. octet < 256) (255 - x) (all_complemented octets) (omega arith) (complemented-octets octets)

pub complemented-is : (octets : List ℕ) → AreOctets octets → all_complemented octets
    ≡ octets_of (complement (bits_of octets))
complemented-is octets are =
    sym (octets_of-bits_of (all_complemented octets) (complemented-octets octets))
    ∙ ap octets_of (complemented-bits octets are)

pub length-complemented : (octets : List ℕ) → length (all_complemented octets) ≡ length octets
length-complemented [] = refl
length-complemented (x ∷ octets) = ap suc (length-complemented octets)

pub get_or-complemented : (octets : List ℕ) (n : ℕ) → n < length octets
    → get_or (all_complemented octets) n 0 ≡ 255 - get_or octets n 0
get_or-complemented [] n within = absurd (omega arith)
get_or-complemented (x ∷ octets) zero within = refl
get_or-complemented (x ∷ octets) (suc n) within = get_or-complemented octets n (omega arith)

-- ---- the codeblock that octets are received as
upright-in : (inverted complemented : Bool) (before octets : List ℕ) → inverted ≡ complemented
    → octets ≡ octets_of (in_polarity complemented (bits_of before))
    → octets ≡ octets_of (in_polarity inverted (bits_of before))
upright-in inverted complemented before octets e is = is ∙ ap (λ b. octets_of (in_polarity b (bits_of before))) (sym e)

pub upright-complemented : (inverted : Bool) (before octets : List ℕ) → inverted ≡ true
    → octets ≡ octets_of (complement (bits_of before)) → octets ≡ octets_of (in_polarity inverted (bits_of before))
upright-complemented inverted before octets e is = upright-in inverted true before octets e is

pub upright-same : (inverted : Bool) (before octets : List ℕ) → AreOctets before → inverted ≡ false → octets ≡ before
    → octets ≡ octets_of (in_polarity inverted (bits_of before))
upright-same inverted before octets are e is =
    upright-in inverted false before octets e (is ∙ sym (octets_of-bits_of before are))

pub codeblock-masked : (c : Configuration) (inverted : Bool) (bits : List Bool) (octets out : List ℕ)
    → c.randomize ≡ true → octets ≡ octets_of (in_polarity inverted bits) → out ≡ masked octets
    → out ≡ codeblock_in c inverted bits
unfolding codeblock_in
codeblock-masked c inverted bits octets out on is masks = rw on (masks ∙ ap masked is)

pub codeblock-plain : (c : Configuration) (inverted : Bool) (bits : List Bool) (octets : List ℕ) → c.randomize ≡ false
    → octets ≡ octets_of (in_polarity inverted bits) → octets ≡ codeblock_in c inverted bits
unfolding codeblock_in
codeblock-plain c inverted bits octets off is = rw off is
