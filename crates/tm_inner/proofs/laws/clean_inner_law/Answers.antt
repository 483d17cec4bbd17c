use Rattle.tm_inner.proofs.InnerBits.{bits-clean}
use Rattle.tm_inner.proofs.laws.clean_inner_law.Goals as goal

pub returns : goal.returns
returns c = bits-clean c.clean_blocks_law.ensures
