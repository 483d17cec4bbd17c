use Rattle.std.proofs.Common.{◌≤◌, ◌∙◌, sym, ap, subst, arith, length, length-set, take, List, ℕ}
use Rattle.std.proofs.lemmas.List.{length-take-le}
use Rattle.tm_conv.specs.Path.{steps_size}
use Rattle.tm_viterbi.specs.Carries.{Carries}
use Rattle.tm_viterbi.proofs.Carrying.{one_step, single_set, Carries-one}
use Rattle.tm_viterbi.proofs.forward_pass.wide_step.Goals as goal

pub slice_bounds-step-end : goal.slice_bounds-step-end
slice_bounds-step-end c =
    let fits : c.step_len-end.result ≤ length c.args.soft.now =
    omega (arith, c.requires.size, c.step_len-end.ensures, one_step c.args.rate c.args.t) in
    sym (length-take-le c.step_len-end.result c.args.soft.now fits)

pub step-requires-clause-size : goal.step-requires-clause-size
step-requires-clause-size c =
    let fits : c.step_len-end.result ≤ length c.args.soft.now =
    omega (arith, c.requires.size, c.step_len-end.ensures, one_step c.args.rate c.args.t) in
    length-take-le c.step_len-end.result c.args.soft.now fits ∙ c.step_len-end.ensures

pub returns-clause-taken : goal.returns-clause-taken
returns-clause-taken c =
    c.step_len-end.ensures ∙ sym (one_step c.args.rate c.args.t)
    ∙ sym (ap (steps_size c.args.rate c.args.t)
    (length-set c.args.survivors.now 0 c.step.result ∙ c.requires.one))

pub returns-clause-carries : goal.returns-clause-carries
returns-clause-carries c =
    let fits : c.step_len-end.result ≤ length c.args.soft.now =
    omega (arith, c.requires.size, c.step_len-end.ensures, one_step c.args.rate c.args.t) in
    subst (λ (w : List ℕ). Carries c.args.rate c.args.invert c.args.t
    (take c.step_len-end.result c.args.soft.now) c.args.sums.now c.step.new.sums w)
    (sym (single_set c.args.survivors.now c.step.result c.requires.one))
    (Carries-one c.args.rate c.args.invert c.args.t c.step.result
    (take c.step_len-end.result c.args.soft.now) c.args.sums.now c.step.new.sums
    (length-take-le c.step_len-end.result c.args.soft.now fits ∙ c.step_len-end.ensures) c.step.ensures.steps)
