use Rattle.std.proofs.Common.{◌≡◌, ◌<◌, ◌≤◌, ◌+◌, ◌-◌, ◌^◌, ◌++◌, ℕ, List, get_or, arith, length, length-append}
use Rattle.tm_conv.specs.declared.rates.Rate.TheVariants.{R12}
use Rattle.tm_viterbi.specs.Totals.{AreAtMost}
use Rattle.tm_viterbi.specs.Carries.{lifted}
use Rattle.tm_viterbi.proofs.Carrying.{at_most_next, half_rate_pair, StepsTo-lifted}
use Rattle.tm_viterbi.proofs.narrow_steps.half_rate_two.Goals as goal

fits : (sums metrics : List ℕ) → AreAtMost (2 ^ 16 - 511) sums → ((k : ℕ) → k < 4 → get_or metrics k 0 ≤ 510)
    → (s k : ℕ) → s < 64 → k < 4 → get_or sums s 0 + get_or metrics k 0 < 2 ^ 16
fits sums metrics room small s k sl kl = omega (arith, room s sl, small k kl)

pub narrow_metrics-first-requires-clause-fits : goal.narrow_metrics-first-requires-clause-fits
narrow_metrics-first-requires-clause-fits c =
    fits (c.args.low ++ c.args.high) c.two_step_metrics.result.0 (λ s lt. omega (arith, c.requires.room s lt))
    c.two_step_metrics.ensures.first_small

pub narrow_metrics-second-requires-clause-fits : goal.narrow_metrics-second-requires-clause-fits
narrow_metrics-second-requires-clause-fits c =
    let between = c.narrow_metrics-first.result.0 ++ c.narrow_metrics-first.result.1 in
    let room = at_most_next (c.args.low ++ c.args.high) c.two_step_metrics.result.0 between (2 ^ 16 - 1021)
    c.narrow_metrics-first.ensures.sums c.requires.room c.two_step_metrics.ensures.first_small in
    fits between c.two_step_metrics.result.1 (λ s lt. omega (arith, room s lt)) c.two_step_metrics.ensures.second_small

pub returns-clause-carries : goal.returns-clause-carries
returns-clause-carries c invert t base e =
    let before = c.args.low ++ c.args.high in
    let between = c.narrow_metrics-first.result.0 ++ c.narrow_metrics-first.result.1 in
    let next = c.narrow_metrics-second.result.0 ++ c.narrow_metrics-second.result.1 in
    let lb : length before ≡ 64 = omega (arith, length-append c.args.low c.args.high, c.fits-low.0, c.fits-high.0) in
    let lm : length between ≡ 64 = omega (
      arith,
      length-append c.narrow_metrics-first.result.0 c.narrow_metrics-first.result.1,
      c.narrow_metrics-first.ensures.long,
    ) in
    let ln : length next ≡ 64 = omega (
      arith,
      length-append c.narrow_metrics-second.result.0 c.narrow_metrics-second.result.1,
      c.narrow_metrics-second.ensures.long,
    ) in
    half_rate_pair invert t _ _ c.args.octets.now (lifted base before) (lifted base between)
    (lifted base next) c.requires.size
    (StepsTo-lifted R12 invert t base _ _ before between lb lm (record {
      metrics = c.two_step_metrics.result.0;
      are_branch_metrics = c.two_step_metrics.ensures.first invert t e;
      are_sums = c.narrow_metrics-first.ensures.sums;
      are_survivors = c.narrow_metrics-first.ensures.survivors;
    }))
    (StepsTo-lifted R12 invert (t + 1) base _ _ between next lm ln (record {
      metrics = c.two_step_metrics.result.1;
      are_branch_metrics = c.two_step_metrics.ensures.second invert (t + 1) e;
      are_sums = c.narrow_metrics-second.ensures.sums;
      are_survivors = c.narrow_metrics-second.ensures.survivors;
    }))

pub returns-clause-bounded : goal.returns-clause-bounded
returns-clause-bounded c m h s lt =
    let between = c.narrow_metrics-first.result.0 ++ c.narrow_metrics-first.result.1 in
    let next = c.narrow_metrics-second.result.0 ++ c.narrow_metrics-second.result.1 in
    let first = at_most_next (c.args.low ++ c.args.high) c.two_step_metrics.result.0 between m
    c.narrow_metrics-first.ensures.sums h c.two_step_metrics.ensures.first_small in
    omega (
      arith,
      at_most_next between c.two_step_metrics.result.1 next (m + 510) c.narrow_metrics-second.ensures.sums first
          c.two_step_metrics.ensures.second_small s lt,
    )
