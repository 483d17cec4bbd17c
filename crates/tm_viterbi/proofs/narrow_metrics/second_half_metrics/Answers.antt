use Rattle.std.proofs.Common.{arith}
use Rattle.tm_viterbi.proofs.Halves.{near_second_lanes, far_second_lanes}
use Rattle.tm_viterbi.proofs.narrow_metrics.second_half_metrics.Goals as goal

pub returns-clause-near : goal.returns-clause-near
returns-clause-near c = near_second_lanes c.args.metrics (omega arith)

pub returns-clause-far : goal.returns-clause-far
returns-clause-far c = far_second_lanes c.args.metrics (omega arith)
