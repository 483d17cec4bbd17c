-- One step more of the forward pass.
use Rattle.std.proofs.Common.{◌≡◌, ℕ, ◌+◌, ◌/◌, ◌%◌, ap, min, ◌<◌, ◌≤◌, arith}
use Rattle.tm_conv.specs.declared.rates.Rate.{Rate}
use Rattle.tm_conv.specs.declared.rates.Rate.TheVariants.{R12, R23, R34, R56, R78}
use Rattle.tm_conv.specs.Path.{period, step_size, steps_size}
use Rattle.tm_conv.proofs.Paths.{steps_size-more}
use Rattle.tm_conv.proofs.Sizes.{steps_size-le, steps_size-is, steps_size-add}

pub step_fits : (rate : Rate) (t i n at len size : ℕ) → i < n → at ≡ steps_size rate t i → len ≡ step_size rate (t + i)
    → size ≡ steps_size rate t n → at + len ≤ size
step_fits rate t i n at len size lt a l s =
    omega (arith, a, l, s, steps_size-more rate t i, steps_size-le rate t (i + 1) n (omega arith))

-- a whole pattern sends one symbol more than it has steps, wherever it begins
counted_period : (rate : Rate) (t : ℕ)
    → t + period rate + ((t + period rate) / period rate + min 1 ((t + period rate) % period rate))
    ≡ t + (t / period rate + min 1 (t % period rate)) + (period rate + 1)
counted_period R12 t = let goal : t + 1 + ((t + 1) / 1 + min 1 ((t + 1) % 1)) ≡ t + (t / 1 + min 1 (t % 1)) + (1 + 1) =
    omega arith in goal
counted_period R23 t = let goal : t + 2 + ((t + 2) / 2 + min 1 ((t + 2) % 2)) ≡ t + (t / 2 + min 1 (t % 2)) + (2 + 1) =
    omega arith in goal
counted_period R34 t = let goal : t + 3 + ((t + 3) / 3 + min 1 ((t + 3) % 3)) ≡ t + (t / 3 + min 1 (t % 3)) + (3 + 1) =
    omega arith in goal
counted_period R56 t = let goal : t + 5 + ((t + 5) / 5 + min 1 ((t + 5) % 5)) ≡ t + (t / 5 + min 1 (t % 5)) + (5 + 1) =
    omega arith in goal
counted_period R78 t = let goal : t + 7 + ((t + 7) / 7 + min 1 ((t + 7) % 7)) ≡ t + (t / 7 + min 1 (t % 7)) + (7 + 1) =
    omega arith in goal

period_size : (rate : Rate) (t : ℕ) → steps_size rate t (period rate) ≡ period rate + 1
period_size rate t =
    let from : 0 + t ≡ t = omega arith in
    omega (
      arith,
      steps_size-add rate 0 t (period rate),
      ap
          (λ (v : ℕ). steps_size rate v (period rate)) from,
      steps_size-is rate t,
      steps_size-is rate
          (t + period rate),
      counted_period rate t,
    )

pub period_more : (rate : Rate) (t i n : ℕ) → n ≡ period rate
    → steps_size rate t (i + n) ≡ steps_size rate t i + (n + 1)
period_more rate t i n e =
    omega (arith, steps_size-add rate t i n, ap (steps_size rate (t + i)) e, period_size rate (t + i), e)
