use Rattle.std.proofs.Common.{ℕ, ◌<◌, ◌≤◌, slice_index}
use Rattle.tm_viterbi.proofs.path_ends.least_register.Given as goal

abbrev pub invariant-loop-k : goal.invariant-loop-k
invariant-loop-k l = record {
  seen : l.best < l.k;
  least : (k : ℕ) → k < l.k → slice_index l.sums l.best ≤ slice_index l.sums k;
  first : (k : ℕ) → k < l.best → slice_index l.sums l.best < slice_index l.sums k;
}
