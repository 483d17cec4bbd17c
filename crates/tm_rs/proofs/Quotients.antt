-- A step of the division.
use Rattle.std.proofs.Common.{◌≡◌, ◌<◌, ◌+◌, ◌-◌, ℕ, suc, List, arith, ap, sym, ◌∙◌, subst}
use Rattle.std.specs.Prelude.{bit_xor}
use Rattle.tm_gf256.specs.Field.{times}
use Rattle.tm_gf256.specs.Poly.{value_at}
use Rattle.tm_gf256.proofs.PolyLemmas.{value_at-push}
use Rattle.tm_rs_code.specs.Recurrence.{discrepancy, listing}
use Rattle.tm_rs_code.specs.ErrorValues.{divided}
use Rattle.tm_rs_code.proofs.Division.{listing-push}

pub divided_more : (c : ℕ → ℕ) (x i q p q' : ℕ) → q ≡ divided c x i → p ≡ times x q → q' ≡ bit_xor (c i) p
    → q' ≡ divided c x (suc i)
divided_more c x i q p q' e f g = g ∙ ap (bit_xor (c i)) (f ∙ ap (times x) e)

pub discrepancy_more : (c s : ℕ → ℕ) (k i a f p b : ℕ) → a ≡ discrepancy c s k i → f ≡ c i → p ≡ times f (s (k - i))
    → b ≡ bit_xor a p → b ≡ discrepancy c s k (suc i)
discrepancy_more c s k i a f p b e g h j =
    j ∙ ap (λ (y : ℕ). bit_xor y p) e ∙ ap (bit_xor (discrepancy c s k i)) (h ∙ ap (λ (y : ℕ). times y (s (k - i))) g)

pub value_more : (c : ℕ → ℕ) (x i a f p b : ℕ) → c i < 256 → a ≡ value_at (listing c 0 i) x → f ≡ c i → p ≡ times a x
    → b ≡ bit_xor p f → b ≡ value_at (listing c 0 (suc i)) x
value_more c x i a f p b small e g h j =
    let same : 0 + i ≡ i = omega arith in
    j ∙ ap (λ (y : ℕ). bit_xor y f) (h ∙ ap (λ (y : ℕ). times y x) e)
    ∙ ap (bit_xor (times (value_at (listing c 0 i) x) x)) (g ∙ ap c (sym same))
    ∙ sym (ap (λ (ys : List ℕ). value_at ys x) (listing-push c 0 i)
    ∙ value_at-push (listing c 0 i) (c (0 + i)) x (subst (λ (k : ℕ). c k < 256) (sym same) small))
