-- Looks for slips before windows one after another.
use Rattle.std.specs.Prelude.{ℕ, ◌+◌, ◌*◌, ◌<◌, ◌≤◌, drop, length}
use Rattle.tm_conv.specs.Path.{steps_size}
use Rattle.tm_windows.specs.Phase.{most_period_size}
use Rattle.tm_windows.specs.Slip.{IsSlip, most_seen}
use Rattle.tm_windows.specs.declared.looks.Looks.{Looks}

-- nothing is dropped before the window of this number, where nothing is dropped before those from
-- number 0 on
abbrev pub IsUndroppedAt : Looks → ℕ → Type 0
IsUndroppedAt l number = IsSlip l.shape.rate l.shape.invert (l.t + number * l.shape.keep) l.steps
    (drop (steps_size l.shape.rate l.t (number * l.shape.keep)) l.octets.now) 0

-- the octets have the steps of `count` windows, and one more, and a look is over fewer steps than a
-- window has
pub record HoldLooks (l : Looks) (count : ℕ) : Type 0 where
  pub room : steps_size l.shape.rate l.t (count * l.shape.keep + l.shape.ahead + 1)
      ≤ length l.octets.now
  pub steps : (l.steps ≤ most_seen) × (l.steps + most_period_size ≤ l.shape.keep + l.shape.ahead)

-- of the windows from number `first` on, up to number `last`, this is the first before which octets
-- are dropped, or `last` where there is none
pub record IsFirstDrop (l : Looks) (first last number : ℕ) : Type 0 where
  pub within : (first ≤ number) × (number ≤ last)
  pub none : (k : ℕ) → first ≤ k → k < number → IsUndroppedAt l k
  pub dropped : number < last → IsUndroppedAt l number → ⊥
