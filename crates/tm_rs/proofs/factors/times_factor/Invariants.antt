use Rattle.std.proofs.Common.{◌≡◌, ◌+◌, ℕ, ◌<◌, ◌≤◌, length}
use Rattle.tm_gf256.specs.Poly.{entry}
use Rattle.tm_rs_code.specs.Recurrence.{patched}
use Rattle.tm_rs.proofs.factors.times_factor.Given as goal

abbrev pub invariant-loop-i : goal.invariant-loop-i
invariant-loop-i g l = record {
  done : (j : ℕ) → j < l.i → j < l.degree + 2 → entry l.coefs j
      ≡ patched (entry l.initial.coefs) l.x.0 1 (entry l.initial.coefs) j;
  room : length l.coefs ≡ 33;
  counted : l.steps + 1 ≡ l.initial.steps + l.i;
  left : (j : ℕ) → l.degree + 2 ≤ j → entry l.coefs j ≡ entry l.initial.coefs j;
}
