use Rattle.std.proofs.Common.{◌≡◌, ◌≤◌, ◌+◌, ℕ, List, drop, length}
use Rattle.tm_gf256.specs.Poly.{entry, numbers}
use Rattle.tm_rs_code.specs.Code.{weight}
use Rattle.tm_rs_code.specs.Erasures.{inside}
use Rattle.tm_rs_code.specs.ErrorValues.{IsLocated}
use Rattle.tm_rs.proofs.erased_word.count_inside.Given as goal

abbrev pub invariant-loop-j : goal.invariant-loop-j
invariant-loop-j l = record {
  counted : (u w : List ℕ) → IsLocated l.e (entry l.syndromes) (numbers l.locator) u w → length w ≡ length l.erased
      → l.count + weight (inside (drop l.j l.erased) (drop l.j w)) ≡ weight (inside l.erased w);
  small : l.count ≤ l.j;
}
