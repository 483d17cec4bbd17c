-- Products, inverses and powers by logarithms.
use Rattle.std.proofs.Common.{◌≡◌, ◌<◌, ◌≤◌, ◌≢◌, ℕ, zero, suc, ◌+◌, ◌*◌, ◌-◌, ◌%◌, refl, ap, sym, ◌∙◌, arith, inl, inr}
use Rattle.std.proofs.lemmas.Bool.{cases_eq}
use Rattle.tm_gf256.specs.Field.{times, power}
use Rattle.tm_gf256.specs.Logarithm.{IsLogarithm}
use Rattle.tm_gf256.proofs.Ring.{power-add, power-mod, power-power, power-255, times-zero, zero-times, power_apart, power-nonzero}

-- the entry that two logarithms lead to is the product
pub product_by_logs : (a b i j r : ℕ) → IsLogarithm i a → IsLogarithm j b
    → (i + j < 510 → r ≡ power 2 (i + j)) → (510 ≤ i + j → r ≡ 0) → r ≡ times a b
product_by_logs a b i j r ha hb low high =
    elim (cases_eq a 0) [
      | inl e ↦ high (omega (arith, ha.of_zero e)) ∙ sym (ap (λ (y : ℕ). times y b) e ∙ zero-times b)
      | inr ne ↦ elim (cases_eq b 0) [
        | inl f ↦ high (omega (arith, hb.of_zero f)) ∙ sym (ap (times a) f ∙ times-zero a)
        | inr nf ↦
            low (omega (arith, ha.small ne, hb.small nf)) ∙ power-add 2 i j
            ∙ ap (λ (y : ℕ). times y (power 2 j)) (ha.undoes ne) ∙ ap (times a) (hb.undoes nf)
      ]
    ]

pub inverse_by_log : (a i : ℕ) → a ≢ 0 → IsLogarithm i a → times a (power 2 (255 - i)) ≡ 1
inverse_by_log a i ne h =
    let small : i < 255 = h.small ne in
    ap (λ (y : ℕ). times y (power 2 (255 - i))) (sym (h.undoes ne))
    ∙ sym (power-add 2 i (255 - i)) ∙ ap (power 2) (omega arith) ∙ power-255

-- no power of alpha is 0
pub power-alpha_nonzero : (k r : ℕ) → r ≡ power 2 k → r ≢ 0
power-alpha_nonzero k r e z = power-nonzero 2 k (omega arith) (λ (two : 2 ≡ 0). omega arith) (sym e ∙ z)

pub power_by_log : (a i n : ℕ) → a ≢ 0 → IsLogarithm i a → power 2 ((i * n) % 255) ≡ power a n
power_by_log a i n ne h =
    sym (power-mod (i * n)) ∙ sym (power-power 2 i n) ∙ ap (λ (y : ℕ). power y n) (h.undoes ne)

pub only_log : (a log : ℕ) → a ≢ 0 → IsLogarithm log a → (i : ℕ) → i < 255 → power 2 i ≡ a → i ≡ log
only_log a log ne h i lt e = power_apart i log lt (h.small ne) (e ∙ sym (h.undoes ne))

pub power-zero : (a : ℕ) → power a 0 ≡ 1
unfolding power
power-zero a = refl

pub zero-power : (n : ℕ) → n ≢ 0 → power 0 n ≡ 0
unfolding power
zero-power zero ne = absurd (ne refl)
zero-power (suc n) ne = times-zero (power 0 n)

pub ruleset steps = (inverse_by_log, power-alpha_nonzero, power_by_log, power-zero, zero-power, power-mod, only_log)
