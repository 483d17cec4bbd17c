use Rattle.std.proofs.Common.{arith}
use Rattle.tm_viterbi.proofs.Halves.{near_first_lanes, far_first_lanes}
use Rattle.tm_viterbi.proofs.narrow_metrics.first_half_metrics.Goals as goal

pub returns-clause-near : goal.returns-clause-near
returns-clause-near c = near_first_lanes c.args.metrics (omega arith)

pub returns-clause-far : goal.returns-clause-far
returns-clause-far c = far_first_lanes c.args.metrics (omega arith)
