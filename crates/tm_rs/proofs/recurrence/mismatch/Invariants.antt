use Rattle.std.proofs.Common.{◌≡◌, ◌+◌}
use Rattle.tm_gf256.specs.Poly.{entry}
use Rattle.tm_rs_code.specs.Recurrence.{discrepancy}
use Rattle.tm_rs.proofs.recurrence.mismatch.Given as goal

abbrev pub invariant-loop-i : goal.invariant-loop-i
invariant-loop-i g l = record {
  summed : l.sum.0 ≡ discrepancy (entry l.coefs) (entry l.terms) l.k l.i;
  counted : l.steps ≡ l.initial.steps + l.i;
}
