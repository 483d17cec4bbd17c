use Rattle.std.proofs.Common.{◌≡◌, ◌≤◌, ℕ, List, length}
use Rattle.tm_rs_code.specs.Pattern.{roots_below}
use Rattle.tm_rs_code.specs.PlaceValues.{AreValues}
use Rattle.tm_rs.proofs.roots.count_roots.Given as goal

abbrev pub invariant-loop-p : goal.invariant-loop-p
invariant-loop-p l = record {
  counted : (poly : List ℕ) → AreValues poly l.n l.values → l.count ≡ length (roots_below poly l.p);
  few : l.count ≤ l.p;
}
