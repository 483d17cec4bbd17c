use Rattle.std.proofs.Common.{ℕ, ◌<◌, ◌≤◌}
use Rattle.tm_windows.specs.Looks.{IsUndroppedAt}
use Rattle.tm_windows.proofs.looks.Looks.first_drop.Given as goal

abbrev pub invariant-loop-number : goal.invariant-loop-number
invariant-loop-number g l = record {
  none : (k : ℕ) → l.first ≤ k → k < l.number → IsUndroppedAt l.self k;
}
