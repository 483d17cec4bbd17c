use Rattle.std.proofs.Common.{◌≡◌, ◌<◌, ℕ, get_or}
use Rattle.tm_gf256.specs.Poly.{entry}
use Rattle.tm_rs.proofs.check_symbols.store.Given as goal

abbrev pub invariant-loop-i : goal.invariant-loop-i
invariant-loop-i l = (j : ℕ) → j < l.i → entry l.out j ≡ get_or l.register j 0
