-- The lowest bits of a number, and how they come apart.
use Rattle.std.proofs.Common.{◌≡◌, ℕ, zero, suc, ◌+◌, ◌*◌, ◌/◌, ◌%◌, ◌^◌, ◌==◌, ◌∷◌, ◌++◌, sym, ap, ◌∙◌, arith}
use Rattle.std.proofs.lemmas.Nat.{pow-add}
use Rattle.std.proofs.Math.Nat.{div-div-eq-div-mul}
use Rattle.tm_base.specs.Bits.{low_bits}
use Rattle.tm_base.proofs.Packing.{low_bits-zero, low_bits-first, low_bits-number_of, length-low_bits, number_of-low_bits}

-- they are those of the number's rest
pub low_bits-rest : (count number : ℕ) → low_bits count (number % 2 ^ count) ≡ low_bits count number
low_bits-rest count number =
    sym (λ i. low_bits (length-low_bits count number i) (number_of-low_bits count number i))
    ∙ low_bits-number_of (low_bits count number)

-- numbers that leave the same rest have the same lowest bits
pub low_bits-same : (count a b : ℕ) → a % 2 ^ count ≡ b % 2 ^ count → low_bits count a ≡ low_bits count b
low_bits-same count a b same = sym (low_bits-rest count a) ∙ ap (low_bits count) same ∙ low_bits-rest count b

-- the higher ones, and then the lower ones
pub low_bits-split : (high low number : ℕ) → low_bits (high + low) number ≡ low_bits high (number / 2 ^ low)
    ++ low_bits low number
low_bits-split zero low number =
    ap (λ n. low_bits n number) (omega arith)
    ∙ ap (λ l. l ++ low_bits low number) (sym (low_bits-zero (number / 2 ^ low)))
low_bits-split (suc high) low number =
    let next : suc high + low ≡ suc (high + low) = omega arith in
    let powers : 2 ^ low * 2 ^ high ≡ 2 ^ (high + low) = sym (pow-add 2 low high) ∙ ap (λ n. 2 ^ n) (omega arith) in
    ap (λ n. low_bits n number) next ∙ low_bits-first (high + low) number
    ∙ (λ i. (number / sym powers i % 2 == 1) ∷ low_bits-split high low number i)
    ∙ ap (λ n. (n % 2 == 1) ∷ (low_bits high (number / 2 ^ low) ++ low_bits low number))
    (sym (div-div-eq-div-mul number (2 ^ low) (2 ^ high)))
    ∙ ap (λ l. l ++ low_bits low number) (sym (low_bits-first high (number / 2 ^ low)))
