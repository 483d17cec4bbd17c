use Rattle.std.proofs.Common.{arith}
use Rattle.tm_gf256.proofs.Entries.{log_found}
use Rattle.tm_gf256.proofs.tables.logarithm.Goals as goal

pub returns : goal.returns
returns c = log_found c.args.a (omega arith)
