use Rattle.tm_conv.proofs.Complement.{path-complement}
use Rattle.tm_conv.proofs.laws.complement_law.Goals as goal

pub returns : goal.returns
returns c = path-complement
