use Rattle.std.proofs.Common.{arith, sym}
use Rattle.tm_gf256.proofs.Coefficients.{copies-even, copies-odd}
use Rattle.tm_gf256.proofs.polynomial.repeated.Goals as goal

pub returns-then-count-eq1 : goal.returns-then-count-eq1
returns-then-count-eq1 c = sym (copies-odd c.args.count c.args.c.0 c.if-count-eq1.true)

pub returns-else-count-eq1 : goal.returns-else-count-eq1
returns-else-count-eq1 c = sym (copies-even c.args.count c.args.c.0 (omega arith))
