use Rattle.tm_conv.proofs.Starts.{six_pairs}
use Rattle.tm_conv.proofs.laws.six_pairs_law.Goals as goal

pub returns : goal.returns
returns c = six_pairs
