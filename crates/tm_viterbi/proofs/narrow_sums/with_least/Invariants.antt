use Rattle.std.proofs.Common.{◌≡◌, ◌<◌, ◌+◌, ℕ, get_or, length}
use Rattle.tm_viterbi.proofs.narrow_sums.with_least.Given as goal

abbrev pub invariant-loop-s : goal.invariant-loop-s
invariant-loop-s l = record {
  long : length l.out ≡ 64;
  done : (k : ℕ) → k < l.s → get_or l.out k 0 ≡ l.least + get_or l.first k 0;
  more : (k : ℕ) → k < l.s → get_or l.out (32 + k) 0 ≡ l.least + get_or l.second k 0;
}
