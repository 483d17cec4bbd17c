use Rattle.std.proofs.Common.{length}
use Rattle.tm_viterbi.proofs.LeastCost.{few_octets}
use Rattle.tm_viterbi.proofs.path_cost.least_cost_below.Goals as goal

pub least_distances-least-requires : goal.least_distances-least-requires
least_distances-least-requires c =
    let steps = c.requires.steps in
    few_octets c.args.rate c.args.t steps.0 (length c.args.soft.now) steps.1 steps.2

pub returns : goal.returns
returns c = let found = c.cost_below.ensures.cost in record { cost = (found.0, found.1, found.2, found.4) }
