use Rattle.tm_inner.proofs.Metrics.{small-metrics}
use Rattle.tm_inner.proofs.laws.metric_law.Goals as goal

pub returns : goal.returns
returns c = small-metrics
