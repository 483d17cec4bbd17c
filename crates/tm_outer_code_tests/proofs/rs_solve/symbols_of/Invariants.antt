use Rattle.std.proofs.Common.{◌≡◌, length}
use Rattle.tm_outer_code_tests.proofs.rs_solve.symbols_of.Given as goal

abbrev pub invariant-loop-i : goal.invariant-loop-i
invariant-loop-i l = length l.symbols ≡ 255
