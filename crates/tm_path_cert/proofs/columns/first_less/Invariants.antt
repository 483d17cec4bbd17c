use Rattle.std.proofs.Common.{ℕ, ◌≤◌, ◌<◌, slice_index}
use Rattle.tm_path_cert.proofs.columns.first_less.Given as goal

abbrev pub invariant-loop-register : goal.invariant-loop-register
invariant-loop-register l = (other : ℕ) → other < l.register → l.metric ≤ slice_index l.sums other
