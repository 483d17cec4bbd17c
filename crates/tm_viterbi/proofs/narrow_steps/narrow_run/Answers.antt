use Rattle.std.proofs.Common.{sym, refl, ◌≡◌, ◌<◌, ◌+◌, ◌*◌, ◌≤◌, ◌-◌, ◌^◌, ◌++◌, ap, arith, rules, length, length-append, take, drop, ℕ, subst, List}
use Rattle.std.proofs.lemmas.List.{take_all}
use Rattle.tm_conv.proofs.Paths.{steps_size-more, steps_size-zero}
use Rattle.tm_viterbi.proofs.PassSteps.{step_fits}
use Rattle.tm_conv.specs.Path.{steps_size, step_size}
use Rattle.tm_conv.specs.declared.rates.Rate.{Rate}
use Rattle.tm_viterbi.specs.Carries.{Carries, lifted}
use Rattle.tm_viterbi.proofs.Carrying.{Carries-none, carried_on, StepsTo-lifted}
use Rattle.tm_viterbi.proofs.narrow_steps.narrow_run.Goals as goal

-- the octets of one more step are there
room : (rate : Rate) (t i n at len size : ℕ) → i < n → at ≡ steps_size rate t i → len ≡ step_size rate (t + i)
    → steps_size rate t n ≤ size → at + len ≤ size
room rate t i n at len size lt a l s = omega (arith, step_fits rate t i n at len (steps_size rate t n) lt a l refl)

pub loop-i-init : goal.loop-i-init
loop-i-init c = record {
  place = sym (steps_size-zero c.args.rate c.args.t);
  bounded = λ m h s lt. omega (arith, h s lt);
  long_low = c.fits-first_low.0;
  long_high = c.fits-first_high.0;
  carries = λ base. Carries-none c.args.rate c.args.invert c.args.t
      (lifted base (c.args.first_low ++ c.args.first_high));
}

pub overflow_add-end : goal.overflow_add-end
overflow_add-end c =
    let fits : c.loop-i.at + c.step_len.result ≤ length c.args.soft.now
    = room c.args.rate c.args.t c.loop-i.i (length c.args.survivors.now) c.loop-i.at c.step_len.result _
    (omega arith) c.loop-i.invariant.place c.step_len.ensures c.requires.size in
    search rules

pub slice_bounds-narrow_step-end : goal.slice_bounds-narrow_step-end
slice_bounds-narrow_step-end c =
    let fits : c.loop-i.at + c.step_len.result ≤ length c.args.soft.now
    = room c.args.rate c.args.t c.loop-i.i (length c.args.survivors.now) c.loop-i.at c.step_len.result _
    (omega arith) c.loop-i.invariant.place c.step_len.ensures c.requires.size in
    search rules

pub narrow_step-survivor-requires-clause-room : goal.narrow_step-survivor-requires-clause-room
narrow_step-survivor-requires-clause-room c s lt =
    omega (arith, c.loop-i.invariant.bounded (2 ^ 16 - 1 - 510 * length c.args.survivors.now) c.requires.room s lt)

pub loop-i-preserved : goal.loop-i-preserved
loop-i-preserved c =
    let at = c.loop-i.at in
    let len = c.step_len.result in
    let soft = c.args.soft.now in
    let fits : at + len ≤ length soft
    = room c.args.rate c.args.t c.loop-i.i (length c.args.survivors.now) at len _
    (omega arith) c.loop-i.invariant.place c.step_len.ensures c.requires.size in
    let same : at + len - at ≡ len = omega arith in
    let low = c.narrow_step-survivor.result.0 in
    let high = c.narrow_step-survivor.result.1 in
    let ls : length (c.loop-i.low ++ c.loop-i.high) ≡ 64 =
    omega (
      arith,
      length-append c.loop-i.low
          c.loop-i.high,
      c.loop-i.invariant.long_low,
      c.loop-i.invariant.long_high,
    ) in
    let ln : length (low ++ high) ≡ 64 = omega (arith, length-append low high, c.narrow_step-survivor.ensures.long) in
    record {
      place = omega (
        arith,
        c.loop-i.invariant.place,
        c.step_len.ensures,
        steps_size-more c.args.rate c.args.t
            c.loop-i.i,
      );
      bounded = λ m h s lt.
          omega (
            arith,
            c.narrow_step-survivor.ensures.bounded (m + 510 * c.loop-i.i)
                (c.loop-i.invariant.bounded m h) s lt,
          );
      long_low = c.narrow_step-survivor.ensures.long.0;
      long_high = c.narrow_step-survivor.ensures.long.1;
      carries = λ base.
          carried_on c.args.rate c.args.invert c.args.t at len c.loop-i.i c.narrow_step-survivor.result.2 soft _
          (lifted base (c.args.first_low ++ c.args.first_high))
          (lifted base (c.loop-i.low ++ c.loop-i.high))
          (lifted base (low ++ high)) c.loop-i.survivors fits c.step_len.ensures
          (ap (λ (v : ℕ). take v (drop at soft)) same) (omega arith)
          (StepsTo-lifted c.args.rate c.args.invert (c.args.t + c.loop-i.i) base c.narrow_step-survivor.result.2 _
          (c.loop-i.low ++ c.loop-i.high) (low ++ high) ls ln c.narrow_step-survivor.ensures.steps)
          (c.loop-i.invariant.carries base);
    }

pub returns-clause-carries : goal.returns-clause-carries
returns-clause-carries c base =
    subst (λ (w : List ℕ). Carries c.args.rate c.args.invert c.args.t (take c.loop-i.at c.args.soft.now)
    (lifted base (c.args.first_low ++ c.args.first_high)) (lifted base (c.loop-i.low ++ c.loop-i.high)) w)
    (take_all c.loop-i.i c.loop-i.survivors (omega arith)) (c.loop-i.invariant.carries base)

pub returns-clause-bounded : goal.returns-clause-bounded
returns-clause-bounded c m h s lt = omega (arith, c.loop-i.invariant.bounded m h s lt)
