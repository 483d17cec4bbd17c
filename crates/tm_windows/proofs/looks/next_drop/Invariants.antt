use Rattle.std.proofs.Common.{ℕ, ◌<◌, ◌≤◌, ◌-◌}
use Rattle.tm_windows.specs.Looks.{IsUndroppedAt}
use Rattle.tm_windows.proofs.looks.next_drop.Given as goal

abbrev pub invariant-loop-looked : goal.invariant-loop-looked
invariant-loop-looked g l = record {
  some : 0 < l.looked;
  most : l.looked ≤ l.last;
  none : (k : ℕ) → 1 ≤ k → k < l.looked → IsUndroppedAt l.looks k;
}

abbrev pub decreases-loop-looked : goal.decreases-loop-looked
decreases-loop-looked g l = l.last - l.looked
