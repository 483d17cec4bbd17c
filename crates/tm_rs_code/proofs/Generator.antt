-- The generator polynomial of a code: the product of the x + r over its roots r.
use Rattle.std.proofs.Common.{◌≡◌, ◌<◌, ◌*◌, ℕ, zero, suc, List, [], ◌∷◌, length, refl, ap, ◌∙◌, arith, inl, inr}
use Rattle.std.specs.Prelude.{bit_xor}
use Rattle.std.specs.Int.Bits.{xor_self}
use Rattle.std.proofs.lemmas.Bool.{cases_eq}
use Rattle.tm_gf256.specs.Field.{times}
use Rattle.tm_gf256.specs.Poly.{value_at}
use Rattle.tm_gf256.proofs.Ring.{times-zero, zero-times}
use Rattle.tm_rs_code.specs.Code.{root}
use Rattle.tm_rs_code.specs.Pattern.{carry}
use Rattle.tm_rs_code.proofs.Factor.{value_at-carry, product_of, length-product_of}

-- the first n roots of the code
abbrev pub roots : ℕ → ℕ → List ℕ
roots e zero = []
roots e (suc n) = root e n ∷ roots e n

length-roots : (e n : ℕ) → length (roots e n) ≡ n
length-roots e zero = refl
length-roots e (suc n) = ap suc (length-roots e n)

product_vanishes : (e n k : ℕ) → k < n → value_at (1 ∷ product_of (roots e n)) (root e k) ≡ 0
product_vanishes e zero k lt = absurd (omega arith)
product_vanishes e (suc n) k lt =
    let q : List ℕ = product_of (roots e n) in
    let factors : value_at (1 ∷ carry (root e n) 1 q) (root e k)
    ≡ times (bit_xor (root e k) (root e n)) (value_at (1 ∷ q) (root e k)) =
    value_at-carry (root e n) 1 q (root e k) in
    elim (cases_eq k n) [
      | inl same ↦
          factors
          ∙ ap (λ (j : ℕ). times (bit_xor (root e j) (root e n)) (value_at (1 ∷ q) (root e k))) same
          ∙ ap (λ (y : ℕ). times y (value_at (1 ∷ q) (root e k))) (xor_self (root e n))
          ∙ zero-times (value_at (1 ∷ q) (root e k))
      | inr ne ↦
          factors
          ∙ ap (times (bit_xor (root e k) (root e n))) (product_vanishes e n k (omega arith))
          ∙ times-zero (bit_xor (root e k) (root e n))
    ]

-- the generator polynomial without its first coefficient, which is 1
unfoldable pub generator_of : ℕ → List ℕ
generator_of e = product_of (roots e (2 * e))

pub length-generator_of : (e : ℕ) → length (generator_of e) ≡ 2 * e
unfolding generator_of
length-generator_of e = length-product_of (roots e (2 * e)) ∙ length-roots e (2 * e)

pub generator_vanishes : (e k : ℕ) → k < 2 * e → value_at (1 ∷ generator_of e) (root e k) ≡ 0
unfolding generator_of
generator_vanishes e k lt = product_vanishes e (2 * e) k lt
