use Rattle.std.proofs.Common.{◌≡◌, ◌≤◌, ◌<◌, ◌+◌, ◌-◌, ◌*◌, ◌^◌, ℕ, List, length, take, drop}
use Rattle.tm_conv.specs.Path.{steps_size}
use Rattle.tm_viterbi.specs.Walk.{AreBest}
use Rattle.tm_viterbi.specs.Distances.{least_distances}
use Rattle.tm_viterbi.specs.Totals.{total_of, AreAtMost}
use Rattle.tm_viterbi.proofs.path_cost.cost_below.Given as goal

abbrev pub invariant-loop-at : goal.invariant-loop-at
invariant-loop-at l = record {
  within : l.at ≤ length l.soft;
  place : l.at ≡ steps_size l.rate l.t l.done;
  few : l.done ≤ 69632;
  left : (l.left ≤ least_distances (drop l.at l.soft)) × (l.left < 2 ^ 32);
  long : length l.survivors ≡ 120;
  sums : length l.sums ≡ 64;
  bounded : AreAtMost (2 ^ 30 + 510 * l.done) l.sums;
  best : (past : List ℕ) × AreBest (total_of l.rate l.invert l.t l.initial.sums (take l.at l.soft)) l.done l.sums past;
}

abbrev pub decreases-loop-at : goal.decreases-loop-at
decreases-loop-at l = length l.soft - l.at
