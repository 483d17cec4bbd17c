-- How many symbols steps send.
use Rattle.std.proofs.Common.{◌≡◌, ℕ, ◌+◌, ◌-◌, ◌<◌, ◌≤◌, ap, ◌∙◌, arith}
use Rattle.tm_conv.specs.declared.rates.Rate.{Rate}
use Rattle.tm_conv.specs.Path.{step_size, steps_size}
use Rattle.tm_conv.proofs.Sizes.{steps_size-add, steps_size-le}
use Rattle.tm_conv.proofs.Paths.{steps_size-more}

pub steps_size-rest : (rate : Rate) (t a n : ℕ) → a ≤ n → steps_size rate t n
    ≡ steps_size rate t a + steps_size rate (t + a) (n - a)
steps_size-rest rate t a n le =
    let e : n ≡ a + (n - a) = omega arith in
    ap (steps_size rate t) e ∙ steps_size-add rate t a (n - a)

-- the next of the steps whose octets are read so far
pub record IsStep (rate : Rate) (first at k steps all size : ℕ) : Type 0 where
  pub few : k < steps
  pub end : at + size ≡ steps_size rate first (k + 1)
  pub fits : at + size ≤ all

pub next_step : (rate : Rate) (first at k steps all size : ℕ) {t : ℕ} → at ≡ steps_size rate first k → t ≡ first + k
    → all ≡ steps_size rate first steps → size ≡ step_size rate t → at < all
    → IsStep rate first at k steps all size
next_step rate first at k steps all size {t} is place whole one more =
    let next : size ≡ step_size rate (first + k) = one ∙ ap (step_size rate) place in
    grind (
      arith,
      steps_size-more rate first k,
      steps_size-le rate first steps k,
      steps_size-le rate first (k + 1) steps,
    )
