use Rattle.std.proofs.Common.{◌≡◌, ◌+◌, ℕ, ◌<◌, ◌≤◌, length}
use Rattle.tm_gf256.specs.Poly.{entry}
use Rattle.tm_rs_code.specs.Recurrence.{patched}
use Rattle.tm_rs.proofs.recurrence.patch.Given as goal

abbrev pub invariant-loop-i : goal.invariant-loop-i
invariant-loop-i g l = record {
  done : (j : ℕ) → j < l.i → j < l.end → entry l.coefs j ≡ patched (entry l.initial.coefs) l.q.0 l.m (entry l.other) j;
  room : length l.coefs ≡ length l.initial.coefs;
  left : (j : ℕ) → l.i ≤ j → entry l.coefs j ≡ entry l.initial.coefs j;
  after : (j : ℕ) → l.end ≤ j → entry l.coefs j ≡ entry l.initial.coefs j;
  counted : l.steps + l.m ≡ l.initial.steps + l.i;
  most : l.steps ≤ l.initial.steps + l.end;
}
