use Rattle.std.proofs.Common.{◌≡◌, ◌<◌, ℕ}
use Rattle.tm_gf256.specs.Poly.{entry}
use Rattle.tm_rs.proofs.division.is_zero.Given as goal

abbrev pub invariant-loop-i : goal.invariant-loop-i
invariant-loop-i l = (j : ℕ) → j < l.i → entry l.left j ≡ 0
