use Rattle.std.proofs.Common.{rules, ◌≡◌, ◌≤◌, ◌<◌, length, ◌+◌, ◌-◌, ◌*◌, arith, get_or, ap, ◌∙◌}
use Rattle.std.proofs.lemmas.List.Elements.{All-get_or}
use Rattle.tm_path_cert.proofs.Costs.{step_fits, step_left, sum-step}
use Rattle.tm_path_cert.proofs.steps.path_sum.Goals as goal
use Rattle.tm_conv.proofs.Sizes.{steps_size-least}

pub slice_bounds-step-end : goal.slice_bounds-step-end
slice_bounds-step-end c =
    let fits : c.loop-i.place + c.step_len.result ≤ length c.args.soft.now
    =
    omega (
      arith,
      c.step_len.ensures,
      step_fits c.args.rate (c.args.first + c.loop-i.i) c.loop-i.place (length c.args.soft.now)
          (length c.args.bits.now) c.loop-i.i (omega arith) c.loop-i.invariant.within c.loop-i.invariant.left,
    ) in
    search rules

pub overflow_add-sum : goal.overflow_add-sum
overflow_add-sum c =
    let few = steps_size-least c.args.rate c.args.first (length c.args.bits.now) in
    let small : c.loop-i.sum ≤ 510 * c.loop-i.i = c.loop-i.invariant.small in
    let step : c.from-sum.result ≤ 510 = omega (arith, c.cost.ensures.small, c.from-sum.ensures) in
    record { fits = omega (arith, few, small, step, c.requires.steps, c.requires.few) }

pub loop-i-preserved : goal.loop-i-preserved
loop-i-preserved c =
    let lt : c.loop-i.i < length c.args.bits.now = omega arith in
    let t = c.args.first + c.loop-i.i in
    let later : c.args.first + (c.loop-i.i + 1) ≡ t + 1 = omega arith in
    let bit : get_or c.args.bits.now c.loop-i.i 0 < 2 = All-get_or
    (λ bit. bit < 2) c.args.bits.now c.loop-i.i 0 lt c.requires.bits in
    let fits = step_fits c.args.rate t c.loop-i.place (length c.args.soft.now)
    (length c.args.bits.now) c.loop-i.i lt c.loop-i.invariant.within c.loop-i.invariant.left in
    let left = step_left c.args.rate t _ c.loop-i.place (length c.args.soft.now)
    (length c.args.bits.now) c.loop-i.i later lt c.loop-i.invariant.within c.loop-i.invariant.left in
    record {
      register = omega (arith, bit, c.loop-i.invariant.register);
      within = omega (arith, fits, c.step_len.ensures);
      left = ap (λ v. length c.args.soft.now - (c.loop-i.place + v)) c.step_len.ensures ∙ left;
      small = omega (arith, c.loop-i.invariant.small, c.cost.ensures.small, c.from-sum.ensures);
      sum =
          sum-step c.args.rate c.args.invert t _ c.loop-i.now c.loop-i.place _ c.loop-i.sum c.from-sum.result _
          c.loop-i.i c.args.bits.now c.args.soft.now
          later lt (ap (λ v. c.loop-i.place + v) c.step_len.ensures) (omega (arith, fits, c.step_len.ensures))
          (c.from-sum.ensures ∙ c.cost.ensures.cost) c.loop-i.invariant.sum;
    }
