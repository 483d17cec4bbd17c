use Rattle.std.proofs.Common.{arith}
use Rattle.tm_gf256.proofs.DualEntries.{element_at}
use Rattle.tm_gf256.proofs.dual.from_dual.Goals as goal

pub returns : goal.returns
returns c = element_at c.args.octet (omega arith)
