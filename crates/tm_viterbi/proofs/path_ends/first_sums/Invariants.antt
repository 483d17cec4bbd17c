use Rattle.std.proofs.Common.{◌≡◌, ℕ, ◌<◌, slice_index, length}
use Rattle.tm_conv.specs.Columns.{first_cost}
use Rattle.tm_viterbi.specs.Starts.{starts_from}
use Rattle.tm_viterbi.proofs.path_ends.first_sums.Given as goal

abbrev pub invariant-loop-r : goal.invariant-loop-r
invariant-loop-r l = record {
  long : length l.sums ≡ 64;
  firsts : (k : ℕ) → k < l.r → slice_index l.sums k ≡ first_cost (starts_from l.starts) k;
}
