use Rattle.std.proofs.Common.{ℕ, ◌+◌, ◌*◌, ◌^◌, ◌<◌}
use Rattle.tm_path_cert.proofs.Edges.{AreLowEnough}
use Rattle.tm_path_cert.proofs.columns.are_low_enough.Given as goal

abbrev pub invariant-loop-k : goal.invariant-loop-k
invariant-loop-k l = l.all < 2 ^ 63 → (j : ℕ) → j < 4 * l.k → AreLowEnough l.costs l.before l.sums j

abbrev pub invariant-loop-i : goal.invariant-loop-i
invariant-loop-i l = l.all < 2 ^ 63 → (j : ℕ) → j < 4 * l.k + l.i → AreLowEnough l.costs l.before l.sums j
