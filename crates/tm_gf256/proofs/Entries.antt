-- The tables of the code hold the powers of alpha and the logarithms.
use Rattle.std.proofs.Common.{◌≡◌, ◌<◌, ◌≤◌, ◌≢◌, ◌+◌, ◌-◌, ℕ, zero, suc, get_or, true, eqb, refl, ap, sym, ◌∙◌, arith, ◌||◌, inl, inr}
use Rattle.std.proofs.lemmas.Bool.{cases_eq, eqb-true}
use Rattle.tm_gf256.specs.Field.{power}
use Rattle.tm_gf256.specs.Logarithm.{IsLogarithm}
use Rattle.tm_gf256.specs.declared.tables.TheConstants.{POWERS, LOGARITHMS}
use Rattle.tm_gf256.proofs.Below.{all_below, same_below, at_below}
use Rattle.tm_gf256.proofs.Steps.{times_x, steps, find_log}
use Rattle.tm_gf256.proofs.Tests.{log_of, neq-eqb, or_left}
use Rattle.tm_gf256.proofs.Ring.{power-2, log_power}

-- ---- the powers, and the zeros after them

next_pass : all_below 509 (λ i. eqb (get_or POWERS (suc i) 0) (times_x (get_or POWERS i 0))) ≡ true
unfolding times_x
next_pass = refl

zeros_pass : all_below 511 (λ i. eqb (get_or POWERS (510 + i) 0) 0) ≡ true
zeros_pass = refl

steps_at : (i : ℕ) → i < 510 → get_or POWERS i 0 ≡ steps i 1
unfolding steps
steps_at zero lt = refl
steps_at (suc i) lt =
    same_below 509 (λ i. get_or POWERS (suc i) 0) (λ i. times_x (get_or POWERS i 0)) next_pass i (omega arith)
    ∙ ap times_x (steps_at i (omega arith))

pub powers_low : (i : ℕ) → i < 510 → get_or POWERS i 0 ≡ power 2 i
powers_low i lt = steps_at i lt ∙ sym (power-2 i)

pub powers_high : (i : ℕ) → 510 ≤ i → i < 1021 → get_or POWERS i 0 ≡ 0
powers_high i ge lt =
    let e : 510 + (i - 510) ≡ i = omega arith in
    sym (ap (λ (j : ℕ). get_or POWERS j 0) e)
    ∙ same_below 511 (λ i. get_or POWERS (510 + i) 0) (λ i. 0) zeros_pass (i - 510) (omega arith)

-- ---- the logarithms

logs_pass : all_below 256 (λ a. eqb a 0 || eqb (get_or LOGARITHMS a 0) (find_log 255 0 1 a)) ≡ true
unfolding find_log times_x
logs_pass = refl

zero_pass : get_or LOGARITHMS 0 0 ≡ 510
zero_pass = refl

log_at : (a : ℕ) → a < 256 → a ≢ 0 → get_or LOGARITHMS a 0 ≡ log_of a
unfolding log_of
log_at a h ne =
    eqb-true (get_or LOGARITHMS a 0) (find_log 255 0 1 a)
    (or_left (eqb a 0) (eqb (get_or LOGARITHMS a 0) (find_log 255 0 1 a))
    (at_below 256 (λ a. eqb a 0 || eqb (get_or LOGARITHMS a 0) (find_log 255 0 1 a)) logs_pass a h)
    (neq-eqb a 0 ne))

pub log_found : (a : ℕ) → a < 256 → IsLogarithm (get_or LOGARITHMS a 0) a
log_found a h = record {
  of_zero = λ e. ap (λ (j : ℕ). get_or LOGARITHMS j 0) e ∙ zero_pass;
  small = λ ne. rw (log_at a h ne) (log_power a h ne).0;
  undoes = λ ne. rw (log_at a h ne) (log_power a h ne).1;
}

pub log_below : (log a : ℕ) → IsLogarithm log a → log < 511
log_below log a h = elim (cases_eq a 0) [ inl e ↦ omega (arith, h.of_zero e) | inr ne ↦ omega (arith, h.small ne) ]
