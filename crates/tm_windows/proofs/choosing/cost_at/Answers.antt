use Rattle.std.proofs.Common.{◌≡◌, ◌+◌, ◌-◌, ◌∙◌, arith, length-drop, take, drop}
use Rattle.std.proofs.lemmas.List.{length-take-le}
use Rattle.tm_windows.proofs.Phases.{IsCostAt-from, slice-octets_at}
use Rattle.tm_windows.proofs.choosing.cost_at.Goals as goal

pub least_cost_from-requires-clause-steps : goal.least_cost_from-requires-clause-steps
least_cost_from-requires-clause-steps c =
    let from = c.from-from.result in
    let rest = drop from c.args.soft.now in
    let size : from + c.args.size - from ≡ c.args.size = omega arith in
    let whole = c.requires.whole in (
      whole.0,
      whole.1,
      length-take-le (from + c.args.size - from) rest
          (omega (arith, length-drop from c.args.soft.now, c.from-from.ensures, c.requires.inside)) ∙ size ∙ whole.2,
    )

pub returns-clause-cost : goal.returns-clause-cost
returns-clause-cost c = λ steps is.
    let from = c.from-from.result in
    let soft = c.args.soft.now in
    IsCostAt-from c.args.rate c.args.invert c.args.t steps soft c.args.skip c.least_cost_from.result
    (take (from + c.args.size - from) (drop from soft))
    (slice-octets_at c.args.rate c.args.t steps soft c.args.skip from c.args.size c.from-from.ensures is)
    c.least_cost_from.ensures.cost
