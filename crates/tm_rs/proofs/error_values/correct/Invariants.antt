use Rattle.std.proofs.Common.{◌≡◌, ◌<◌, ◌≤◌, ℕ, length, List, get_or}
use Rattle.std.specs.Prelude.{bit_xor}
use Rattle.tm_gf256.specs.Poly.{entry, numbers}
use Rattle.tm_rs_code.specs.ErrorValues.{IsLocated}
use Rattle.tm_rs.proofs.error_values.correct.Given as goal

abbrev pub invariant-loop-j : goal.invariant-loop-j
invariant-loop-j l = record {
  done : (u w : List ℕ) → IsLocated l.e (entry l.syndromes) (numbers l.locator) u w → length w ≡ length l.initial.word
      → (i : ℕ) → i < l.j → entry l.word i ≡ bit_xor (entry l.initial.word i) (get_or w i 0);
  left : (i : ℕ) → l.j ≤ i → entry l.word i ≡ entry l.initial.word i;
}
