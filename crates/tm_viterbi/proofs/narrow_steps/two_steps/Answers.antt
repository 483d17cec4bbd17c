use Rattle.std.proofs.Common.{◌≡◌, ◌<◌, ◌≤◌, ◌+◌, ◌-◌, ◌^◌, ◌++◌, [], ◌∷◌, ℕ, List, get_or, arith, length, length-append, sym, subst, take}
use Rattle.tm_conv.specs.declared.rates.Rate.{Rate}
use Rattle.tm_conv.specs.Path.{step_size}
use Rattle.tm_conv.proofs.Sizes.{step_size-is}
use Rattle.tm_viterbi.specs.Totals.{AreAtMost}
use Rattle.tm_viterbi.specs.Carries.{Carries, lifted}
use Rattle.tm_viterbi.proofs.Carrying.{at_most_next, Carries-two, StepsTo-lifted}
use Rattle.tm_viterbi.proofs.narrow_steps.two_steps.Goals as goal

fits : (sums metrics : List ℕ) → AreAtMost (2 ^ 16 - 511) sums → ((k : ℕ) → k < 4 → get_or metrics k 0 ≤ 510)
    → (s k : ℕ) → s < 64 → k < 4 → get_or sums s 0 + get_or metrics k 0 < 2 ^ 16
fits sums metrics room small s k sl kl = omega (arith, room s sl, small k kl)

pub narrow_metrics-first-requires-clause-fits : goal.narrow_metrics-first-requires-clause-fits
narrow_metrics-first-requires-clause-fits c =
    fits (c.args.low ++ c.args.high) c.pair_metrics.result.0 (λ s lt. omega (arith, c.requires.room s lt))
    c.pair_metrics.ensures.first_small

pub narrow_metrics-second-requires-clause-fits : goal.narrow_metrics-second-requires-clause-fits
narrow_metrics-second-requires-clause-fits c =
    let between = c.narrow_metrics-first.result.0 ++ c.narrow_metrics-first.result.1 in
    let room = at_most_next (c.args.low ++ c.args.high) c.pair_metrics.result.0 between (2 ^ 16 - 1021)
    c.narrow_metrics-first.ensures.sums c.requires.room c.pair_metrics.ensures.first_small in
    fits between c.pair_metrics.result.1 (λ s lt. omega (arith, room s lt)) c.pair_metrics.ensures.second_small

-- two steps send at most four symbols
few : (rate : Rate) (t len : ℕ) → len ≡ 4 → step_size rate t + step_size rate (t + 1) ≤ len
few rate t len e = omega (arith, step_size-is rate t, step_size-is rate (t + 1))

pub returns-clause-carries : goal.returns-clause-carries
returns-clause-carries c base =
    let rate = c.args.rate in
    let invert = c.args.invert in
    let t = c.args.t in
    let octets = c.args.octets.now in
    let before = c.args.low ++ c.args.high in
    let between = c.narrow_metrics-first.result.0 ++ c.narrow_metrics-first.result.1 in
    let next = c.narrow_metrics-second.result.0 ++ c.narrow_metrics-second.result.1 in
    let lb : length before ≡ 64 = omega (arith, length-append c.args.low c.args.high, c.fits-low.0, c.fits-high.0) in
    let lm : length between ≡ 64 = omega (
      arith,
      length-append c.narrow_metrics-first.result.0 c.narrow_metrics-first.result.1,
      c.narrow_metrics-first.ensures.long,
    ) in
    let ln : length next ≡ 64 = omega (
      arith,
      length-append c.narrow_metrics-second.result.0 c.narrow_metrics-second.result.1,
      c.narrow_metrics-second.ensures.long,
    ) in
    subst (λ (n : ℕ). Carries rate invert t (take n octets) (lifted base before) (lifted base next)
    (c.narrow_metrics-first.result.2 ∷ c.narrow_metrics-second.result.2 ∷ [])) (sym c.requires.pair.size)
    (Carries-two rate invert t _ _ octets (lifted base before) (lifted base between)
    (lifted base next) (few rate t (length octets) c.requires.size)
    (StepsTo-lifted rate invert t base _ _ before between lb lm (record {
      metrics = c.pair_metrics.result.0;
      are_branch_metrics = c.pair_metrics.ensures.first;
      are_sums = c.narrow_metrics-first.ensures.sums;
      are_survivors = c.narrow_metrics-first.ensures.survivors;
    }))
    (StepsTo-lifted rate invert (t + 1) base _ _ between next lm ln (record {
      metrics = c.pair_metrics.result.1;
      are_branch_metrics = c.pair_metrics.ensures.second;
      are_sums = c.narrow_metrics-second.ensures.sums;
      are_survivors = c.narrow_metrics-second.ensures.survivors;
    })))

pub returns-clause-bounded : goal.returns-clause-bounded
returns-clause-bounded c m h s lt =
    let between = c.narrow_metrics-first.result.0 ++ c.narrow_metrics-first.result.1 in
    let next = c.narrow_metrics-second.result.0 ++ c.narrow_metrics-second.result.1 in
    let first = at_most_next (c.args.low ++ c.args.high) c.pair_metrics.result.0 between m
    c.narrow_metrics-first.ensures.sums h c.pair_metrics.ensures.first_small in
    omega (
      arith,
      at_most_next between c.pair_metrics.result.1 next (m + 510) c.narrow_metrics-second.ensures.sums first
          c.pair_metrics.ensures.second_small s lt,
    )
