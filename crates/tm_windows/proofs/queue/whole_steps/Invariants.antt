use Rattle.std.proofs.Common.{◌<◌, ◌≤◌, ◌+◌, ◌-◌}
use Rattle.tm_conv.specs.Path.{steps_size}
use Rattle.tm_windows.proofs.queue.whole_steps.Given as goal

abbrev pub invariant-loop-above : goal.invariant-loop-above
invariant-loop-above l = record {
  order : l.low < l.above;
  limit : l.above ≤ l.limit + 1;
  whole : steps_size l.rate l.t l.low ≤ l.len;
  most : l.above ≤ l.limit → l.len < steps_size l.rate l.t l.above;
}

abbrev pub decreases-loop-above : goal.decreases-loop-above
decreases-loop-above l = l.above - l.low
