use Rattle.std.proofs.Common.{◌≡◌, ◌<◌, ◌+◌, ℕ, get_or, length}
use Rattle.tm_viterbi.proofs.narrow_sums.less_least.Given as goal

abbrev pub invariant-loop-s : goal.invariant-loop-s
invariant-loop-s l =
    record { long : length l.out ≡ 64; done : (k : ℕ) → k < l.s → l.least + get_or l.out k 0 ≡ get_or l.sums k 0 }
