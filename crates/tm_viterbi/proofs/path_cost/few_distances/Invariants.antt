use Rattle.std.proofs.Common.{◌≡◌, ◌+◌, ◌*◌, ◌≤◌, drop}
use Rattle.tm_viterbi.specs.Distances.{least_distances}
use Rattle.tm_viterbi.proofs.path_cost.few_distances.Given as goal

abbrev pub invariant-loop-octet : goal.invariant-loop-octet
invariant-loop-octet l = record {
  sum : l.sum + least_distances (drop l.octet-index l.octets) ≡ least_distances l.octets;
  small : l.sum ≤ 127 * l.octet-index;
}
