use Rattle.std.proofs.Common.{sym}
use Rattle.tm_gf256.proofs.PolyLemmas.{get_or-numbers, get_or-numbers_past}
use Rattle.tm_gf256.proofs.polynomial.coefficient_or_zero.Goals as goal

pub returns-then-place-poly : goal.returns-then-place-poly
returns-then-place-poly c = sym (get_or-numbers c.args.poly.now c.args.place)

pub returns-else-place-poly : goal.returns-else-place-poly
returns-else-place-poly c = sym (get_or-numbers_past c.args.poly.now c.args.place c.if-place-poly.false)
