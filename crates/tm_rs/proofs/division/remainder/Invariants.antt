use Rattle.std.proofs.Common.{◌≡◌, ◌<◌, ◌≤◌, ◌+◌, ℕ, length}
use Rattle.std.specs.Prelude.{bit_xor}
use Rattle.tm_gf256.specs.Poly.{entry}
use Rattle.tm_rs.proofs.division.remainder.Given as goal

abbrev pub invariant-loop-i : goal.invariant-loop-i
invariant-loop-i l = record {
  size : length l.left ≡ length l.initial.left;
  done : (j : ℕ) → j < l.i → entry l.left j ≡ bit_xor (entry l.initial.left j) (entry l.word (l.at + j));
  rest : (j : ℕ) → l.i ≤ j → entry l.left j ≡ entry l.initial.left j;
}
