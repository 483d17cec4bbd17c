use Rattle.std.proofs.Common.{◌≡◌, ◌+◌, ◌-◌, ◌∙◌, refl, arith, length-drop, take, drop}
use Rattle.std.proofs.lemmas.List.{length-take-le}
use Rattle.tm_conv.specs.Path.{path}
use Rattle.tm_conv.specs.Cost.{cost}
use Rattle.tm_windows.proofs.Phases.{IsCostAt-from, slice-octets_at}
use Rattle.tm_windows.proofs.choosing.cost_below.Goals as goal

pub least_cost_below-requires-clause-steps : goal.least_cost_below-requires-clause-steps
least_cost_below-requires-clause-steps c =
    let from = c.from-from.result in
    let rest = drop from c.args.soft.now in
    let size : from + c.args.size - from ≡ c.args.size = omega arith in
    let whole = c.requires.whole in (
      whole.0,
      whole.1,
      length-take-le (from + c.args.size - from) rest
          (omega (arith, length-drop from c.args.soft.now, c.from-from.ensures, c.requires.inside)) ∙ size ∙ whole.2,
    )

pub returns : goal.returns
returns c =
    let from = c.from-from.result in
    let soft = c.args.soft.now in
    let found = c.least_cost_below.ensures.cost in
    let costs = cost (path c.args.rate c.args.invert c.args.t found.0 found.1)
    (take (from + c.args.size - from) (drop from soft)) in
    record {
      cost = λ steps is. (
        costs,
        IsCostAt-from c.args.rate c.args.invert c.args.t steps soft c.args.skip costs
            (take (from + c.args.size - from) (drop from soft))
            (slice-octets_at c.args.rate c.args.t steps soft c.args.skip from c.args.size c.from-from.ensures is)
            (found.0, found.1, found.2, refl),
        found.3,
      );
    }
