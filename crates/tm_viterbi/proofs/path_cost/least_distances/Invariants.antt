use Rattle.std.proofs.Common.{◌≡◌, ◌+◌, ◌-◌, ◌*◌, ◌≤◌, length, drop}
use Rattle.tm_viterbi.specs.Distances.{least_distances}
use Rattle.tm_viterbi.proofs.path_cost.least_distances.Given as goal

abbrev pub invariant-loop-at : goal.invariant-loop-at
invariant-loop-at l = record {
  sum : l.sum + least_distances (drop l.at l.soft) ≡ least_distances l.soft;
  small : l.sum ≤ 127 * l.at;
  within : l.at ≤ length l.soft;
}

abbrev pub decreases-loop-at : goal.decreases-loop-at
decreases-loop-at l = length l.soft - l.at
