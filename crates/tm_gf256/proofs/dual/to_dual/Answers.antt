use Rattle.std.proofs.Common.{arith}
use Rattle.tm_gf256.proofs.DualEntries.{octet_at}
use Rattle.tm_gf256.proofs.dual.to_dual.Goals as goal

pub returns : goal.returns
returns c = octet_at c.args.element.0 (omega arith)
