use Rattle.std.proofs.Common.{◌≡◌, ◌<◌, ◌+◌, ◌*◌, ℕ, suc, length}
use Rattle.tm_gf256.specs.Poly.{entry}
use Rattle.tm_rs_code.specs.Recurrence.{discrepancy}
use Rattle.tm_rs.proofs.errata.modified.Given as goal

abbrev pub invariant-loop-m : goal.invariant-loop-m
invariant-loop-m g l = record {
  room : length l.values ≡ 32;
  done : (j : ℕ) → j < l.m → entry l.values j ≡ discrepancy (entry l.erasures) (entry l.syndromes) (j + l.count)
      (suc l.count);
  cost : l.steps ≡ l.initial.steps + l.m * (l.count + 1);
}
