use Rattle.std.proofs.Common.{arith}
use Rattle.tm_conv.specs.Path.{c1, c2, sent}
use Rattle.tm_conv.specs.Cost as metric
use Rattle.tm_path_cert.proofs.Edges.{at_pair}
use Rattle.tm_path_cert.proofs.steps.Step.costs.Goals as goal

pub returns : goal.returns
returns c = λ register bit small lt.
    at_pair (λ first second. metric.cost (sent c.args.self.now.rate c.args.self.now.invert c.args.self.now.t first
    second) c.args.self.now.octets.now) _ _ _ _
    c.cost_of.ensures.cost c.cost_of-2.ensures.cost c.cost_of-3.ensures.cost c.cost_of-4.ensures.cost
    (c1 register bit) (c2 register bit) (omega arith) (omega arith)
