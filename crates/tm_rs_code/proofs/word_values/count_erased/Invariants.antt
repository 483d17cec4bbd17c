use Rattle.std.proofs.Common.{◌≡◌, ◌≤◌, ◌+◌, drop}
use Rattle.tm_rs_code.specs.Erasures.{count_erased as count_of_erased}
use Rattle.tm_rs_code.proofs.word_values.count_erased.Given as goal

abbrev pub invariant-loop-i : goal.invariant-loop-i
invariant-loop-i l = record {
  counted : l.count + count_of_erased (drop l.i l.erased) ≡ count_of_erased l.erased;
  few : l.count ≤ l.i;
}
