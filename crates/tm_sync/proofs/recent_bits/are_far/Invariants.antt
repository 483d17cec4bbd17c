use Rattle.std.proofs.Common.{◌≤◌, ◌-◌}
use Rattle.tm_base.specs.Bits.{low_bits}
use Rattle.tm_sync.specs.Places.{Rules}
use Rattle.tm_sync.specs.Searching.{NoneMatch, TellFar}
use Rattle.tm_sync.proofs.recent_bits.are_far.Given as goal

abbrev pub invariant-loop-left : goal.invariant-loop-left
invariant-loop-left l = record {
  few : l.left ≤ 8;
  none : (rules : Rules) → TellFar rules l.too_many l.far
      → NoneMatch rules (8 - l.left) (low_bits 40 l.bits);
}

abbrev pub decreases-loop-left : goal.decreases-loop-left
decreases-loop-left l = l.left
