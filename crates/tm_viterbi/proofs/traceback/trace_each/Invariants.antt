use Rattle.std.proofs.Common.{◌≡◌, ◌<◌, ◌≤◌, ◌++◌, length, take, drop, reverse}
use Rattle.tm_viterbi.specs.Walk.{past_of, start_of}
use Rattle.tm_viterbi.proofs.traceback.trace_each.Given as goal

abbrev pub invariant-loop-i : goal.invariant-loop-i
invariant-loop-i l = record {
  register : l.s < 64;
  within : l.i ≤ length l.survivors;
  bits : past_of (reverse l.survivors) l.register ≡ reverse (drop l.i l.bits)
      ++ past_of (reverse (take l.i l.survivors)) l.s;
  start : start_of (reverse l.survivors) l.register ≡ start_of (reverse (take l.i l.survivors)) l.s;
}

abbrev pub decreases-loop-i : goal.decreases-loop-i
decreases-loop-i l = l.i
