use Rattle.std.proofs.Common.{◌≡◌, ◌≤◌, ◌<◌, ◌-◌}
use Rattle.tm_conv.specs.Path.{steps_size}
use Rattle.tm_viterbi.proofs.path_cost.count_steps.Given as goal

abbrev pub invariant-loop-count : goal.invariant-loop-count
invariant-loop-count l = record {
  some : 0 < l.count;
  within : l.count ≤ l.limit;
  size : l.size ≡ steps_size l.rate l.t l.count;
  fits : l.size ≤ l.len;
}

abbrev pub decreases-loop-count : goal.decreases-loop-count
decreases-loop-count l = l.limit - l.count

abbrev pub invariant-loop-count-2 : goal.invariant-loop-count-2
invariant-loop-count-2 l = record {
  some : 0 < l.count;
  within : l.count ≤ l.limit;
  size : l.size ≡ steps_size l.rate l.t l.count;
  fits : l.size ≤ l.len;
}

abbrev pub decreases-loop-count-2 : goal.decreases-loop-count-2
decreases-loop-count-2 l = l.limit - l.count
