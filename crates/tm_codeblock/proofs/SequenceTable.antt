-- The table of the sequence's octets.
use Rattle.std.proofs.Common.{◌≡◌, ℕ, zero, suc, ◌+◌, ◌*◌, ◌<◌, true, ◌∷◌, get_or, refl, sym, ap, ◌∙◌, arith}
use Rattle.std.proofs.Math.Bool.{xor}
use Rattle.tm_base.specs.Bits.{octets_of}
use Rattle.tm_codeblock.specs.declared.randomizer.TheConstants.{SEQUENCE}
use Rattle.tm_codeblock.proofs.Sequences.{generated, sequence_bits, sequence_bits-generated}
use Rattle.tm_codeblock.proofs.Masks.{eight_on, sequence_octet}

octets_of-sequence_bits : (k count : ℕ) → octets_of (sequence_bits k (eight_on count)) ≡ sequence_octet k
    ∷ octets_of (sequence_bits (eight_on k) count)
unfolding sequence_bits
octets_of-sequence_bits k count = refl

packed : (size k n : ℕ) → n < size → get_or (octets_of (sequence_bits k (8 * size))) n 0 ≡ sequence_octet (k + 8 * n)
packed zero k n within = absurd (omega arith)
packed (suc size) k zero within =
    let long : 8 * suc size ≡ eight_on (8 * size) = omega arith in
    let same : k ≡ k + 8 * 0 = omega arith in
    ap (λ m. get_or (octets_of (sequence_bits k m)) 0 0) long
    ∙ ap (λ l. get_or l 0 0) (octets_of-sequence_bits k (8 * size)) ∙ ap sequence_octet same
packed (suc size) k (suc n) within =
    let long : 8 * suc size ≡ eight_on (8 * size) = omega arith in
    let same : eight_on k + 8 * n ≡ k + 8 * suc n = omega arith in
    ap (λ m. get_or (octets_of (sequence_bits k m)) (suc n) 0) long
    ∙ ap (λ l. get_or l (suc n) 0) (octets_of-sequence_bits k (8 * size))
    ∙ packed size (eight_on k) n (omega arith) ∙ ap sequence_octet same

whole : octets_of (generated 2040 true true true true true true true true) ≡ SEQUENCE
unfolding generated xor
whole = refl

-- the table's octets are those of the sequence
pub table : (n : ℕ) → n < 255 → get_or SEQUENCE n 0 ≡ sequence_octet (8 * n)
table n within =
    let same : 0 + 8 * n ≡ 8 * n = omega arith in
    ap (λ l. get_or l n 0) (sym whole) ∙ ap (λ l. get_or (octets_of l) n 0) (sym (sequence_bits-generated 2040))
    ∙ packed 255 0 n within ∙ ap sequence_octet same
