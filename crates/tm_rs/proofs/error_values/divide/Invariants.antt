use Rattle.std.proofs.Common.{◌≡◌, ◌-◌}
use Rattle.tm_gf256.specs.Poly.{entry, value_at}
use Rattle.tm_rs_code.specs.Recurrence.{discrepancy, listing}
use Rattle.tm_rs_code.specs.ErrorValues.{divided, quotient_at}
use Rattle.tm_rs.proofs.error_values.divide.Given as goal

abbrev pub invariant-loop-i : goal.invariant-loop-i
invariant-loop-i l = record {
  last : l.q.0 ≡ divided (entry l.locator) l.x.0 l.i;
  summed : l.sum.0 ≡ discrepancy (quotient_at (entry l.locator) l.x.0) (entry l.syndromes) (l.degree - 1) l.i;
  valued : l.slope.0 ≡ value_at (listing (quotient_at (entry l.locator) l.x.0) 0 l.i) l.x.0;
}
