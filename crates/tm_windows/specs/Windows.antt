-- Windows before which octets may be dropped: where each begins, and the blocks of octets in them.
-- Where none is ever dropped they are the plain list of blocks (`plain_windows_law`).
use Rattle.std.specs.Prelude.{ℕ, zero, suc, ◌≡◌, ◌+◌, ◌*◌, ◌==◌, ◌<◌, ◌≤◌, ◌⊎◌, ◌++◌, ◌-◌, List, [], ◌∷◌, Bool, true, false, Option, Some, None, if◌then◌else◌, length, drop, take, nat_lt}
use Rattle.std.specs.Option.{ForSome}
use Rattle.tm_conv.specs.Counts.{counts_of}
use Rattle.tm_conv.specs.declared.counts.SymbolCounts.{SymbolCounts}
use Rattle.tm_conv.specs.Path.{path, steps_size}
use Rattle.tm_viterbi.specs.Settings.{Settings}
use Rattle.tm_viterbi.specs.WindowBlock.{WindowBlock}
use Rattle.tm_viterbi.specs.Blocks.{AreSteps, IsBlock}
use Rattle.tm_viterbi.specs.Due.{Place, Closes, after_block, first_place}
use Rattle.tm_windows.specs.Phase.{most_period_size}
use Rattle.tm_windows.specs.Slip.{octets_seen, IsSlip}

-- How octets are cut into windows: as these settings say, and over how many steps a slip is looked
-- for before each window but the first, or None where the phase is not followed.
pub record Windows : Type 0 where
  pub settings : Settings
  pub seen : Option ℕ

-- where a window begins, and how many octets were dropped before it
pub record Beginning : Type 0 where
  pub dropped : ℕ
  pub place : Place

-- where the kept steps of a window end, and how many octets were dropped after them already, or
-- None where this was not decided yet; nothing is dropped before the first window
pub record Spot : Type 0 where
  pub place : Place
  pub decided : Option ℕ

abbrev pub first_spot : Windows → List ℕ → Spot
first_spot w octets = record { place = first_place w.settings octets; decided = Some 0 }

-- after octets that are dropped a window starts from any register
abbrev pub starts_after : ℕ → Option ℕ → Option ℕ
starts_after zero starts = starts
starts_after (suc k) starts = None

-- after k octets, at the same step
abbrev pub moved : ℕ → Place → Place
moved k at = record { starts = starts_after k at.starts; t = at.t; octets = drop k at.octets }

-- where a slip is looked for, enough octets are there, and as many are dropped as it says
abbrev pub DropsBy : Settings → Option ℕ → Place → Beginning → Type 0
DropsBy s None at b = b ≡ record { dropped = 0; place = at }
DropsBy s (Some steps) at b =
    (octets_seen s.rate at.t steps ≤ length at.octets)
    × IsSlip s.rate s.invert at.t steps at.octets b.dropped × (b.place ≡ moved b.dropped at)

abbrev pub BeginsBy : Windows → Option ℕ → Place → Beginning → Type 0
BeginsBy w (Some dropped) at b = b ≡ record { dropped = dropped; place = at }
BeginsBy w None at b = DropsBy w.settings w.seen at b

-- the window after a spot begins there, whatever octets come
abbrev pub Begins : Windows → Spot → Beginning → Type 0
Begins w spot b = BeginsBy w spot.decided spot.place b

-- too few octets are there to look for a slip
abbrev pub IsUnseen : Windows → Spot → Type 0
IsUnseen w spot = (spot.decided ≡ None)
    × ((steps : ℕ) × (w.seen ≡ Some steps)
    × (length spot.place.octets < octets_seen w.settings.rate spot.place.t steps))

-- the same where no more octets come: nothing is dropped where too few are there
abbrev pub BeginsLast : Windows → Spot → Beginning → Type 0
BeginsLast w spot b =
    Begins w spot b ⊎ (IsUnseen w spot × (b ≡ record { dropped = 0; place = spot.place }))

-- the same block, with k octets dropped before its window
abbrev pub dropped_at : ℕ → WindowBlock → WindowBlock
dropped_at k block = record block { dropped = k }

abbrev pub undropped : WindowBlock → WindowBlock
undropped block = dropped_at 0 block

-- the window is closed, and this is its block
abbrev pub ClosesAt : Settings → Beginning → WindowBlock → Type 0
ClosesAt s b block = Closes s.rate s.invert s.keep s.ahead b.place (undropped block)
    × (block.dropped ≡ b.dropped)

abbrev pub spot_after : Settings → Beginning → WindowBlock → Spot
spot_after s b block = record { place = after_block s.rate b.place block; decided = None }

-- from one spot to another by closed windows
abbrev pub Followed : Windows → Spot → List WindowBlock → Spot → Type 0
Followed w from [] to = from ≡ to
Followed w from (block ∷ blocks) to =
    (b : Beginning) × Begins w from b × ClosesAt w.settings b block
    × Followed w (spot_after w.settings b block) blocks to

-- the blocks of the first windows of the octets, each of them closed
abbrev pub AreFirstIn : Windows → List ℕ → List WindowBlock → Type 0
AreFirstIn w octets blocks = (to : Spot) × Followed w (first_spot w octets) blocks to

-- with how many octets, or more, a window from step t on is closed
abbrev pub closing_size : Settings → ℕ → ℕ
closing_size s t = steps_size s.rate t (s.keep + s.ahead + 1)

-- the window after a spot is not closed: too few octets are there, or too few after those that
-- are dropped
abbrev pub IsOpenAt : Windows → Spot → Type 0
IsOpenAt w spot =
    (length spot.place.octets < closing_size w.settings spot.place.t)
    ⊎ ((b : Beginning) × Begins w spot b
    × (length b.place.octets < closing_size w.settings b.place.t))

-- the blocks of all closed windows of the octets
pub record AreDueIn (w : Windows) (octets : List ℕ) (blocks : List WindowBlock) : Type 0 where
  pub to : Spot
  pub closed : Followed w (first_spot w octets) blocks to
  pub is_open : IsOpenAt w to

-- the block of the last window, given the number of its steps: none where that is 0
abbrev pub IsLast : Settings → Beginning → ℕ → List WindowBlock → Type 0
IsLast s b zero last = last ≡ []
IsLast s b (suc n) last = (block : WindowBlock) × (last ≡ block ∷ []) × (block.dropped ≡ b.dropped)
    × IsBlock s.rate s.invert s.keep s.ahead b.place.starts b.place.t (suc n) b.place.octets
    (undropped block)

-- the blocks of all whole steps of the octets: those of the closed windows, and that of the last
-- one; an octet after them is left over
pub record AreBlocksIn (w : Windows) (octets : List ℕ) (blocks : List WindowBlock) (left : ℕ)
    : Type 0 where
  pub done : List WindowBlock
  pub to : Spot
  pub closed : Followed w (first_spot w octets) done to
  pub window : Beginning
  pub begins : BeginsLast w to window
  pub count : ℕ
  pub steps : AreSteps w.settings.rate window.place.t window.place.octets count
  pub few : count ≤ w.settings.keep + w.settings.ahead
  pub last : List WindowBlock
  pub is_last : IsLast w.settings window count last
  pub are : blocks ≡ done ++ last
  pub rest : length window.place.octets
      ≡ steps_size w.settings.rate window.place.t count + left

-- 1 where octets were dropped, and else 0
abbrev pub slip_at : ℕ → ℕ
slip_at dropped = if dropped == 0 then 0 else 1

-- how many of these blocks have octets dropped before them
abbrev pub slips_of : List WindowBlock → ℕ
slips_of [] = 0
slips_of (block ∷ blocks) = slip_at block.dropped + slips_of blocks

-- how many octets were dropped before the windows of these blocks
abbrev pub dropped_of : List WindowBlock → ℕ
dropped_of [] = 0
dropped_of (block ∷ blocks) = block.dropped + dropped_of blocks

-- and up to the window that keeps step n
abbrev pub dropped_to : List WindowBlock → ℕ → ℕ
dropped_to [] n = 0
dropped_to (block ∷ blocks) n =
    block.dropped + (if nat_lt n block.kept then 0 else dropped_to blocks (n - block.kept))

-- how many steps they keep
abbrev pub kept_of : List WindowBlock → ℕ
kept_of [] = 0
kept_of (block ∷ blocks) = block.kept + kept_of blocks

-- what octets say against the symbols of the steps that a block keeps, whose window begins at step t
-- with them
abbrev pub block_counts : Settings → (t : ℕ) → List ℕ → WindowBlock → SymbolCounts
block_counts s t octets block =
    counts_of (path s.rate s.invert t block.start (take block.kept block.bits)) octets

-- before a window that is still to be looked at nothing is dropped, where it is not looked for
abbrev pub undecided : Bool → Option ℕ
undecided false = Some 0
undecided true = None

-- nothing is dropped before a window from step t on with these octets, whatever comes after them
abbrev pub IsUndropped : Windows → ℕ → List ℕ → Type 0
IsUndropped w t octets = ForSome w.seen (λ steps.
    (octets_seen w.settings.rate t steps ≤ length octets)
    × IsSlip w.settings.rate w.settings.invert t steps octets 0)

-- nothing is dropped before any but the first of `count` windows one after another
abbrev pub AreUndropped : Windows → ℕ → List ℕ → ℕ → Type 0
AreUndropped w t octets count = (k : ℕ) → 0 < k → k < count
    → IsUndropped w (t + k * w.settings.keep)
    (drop (steps_size w.settings.rate t (k * w.settings.keep)) octets)

-- a window that is closed has been looked at, and a step is left after octets that are dropped
abbrev pub IsSeen : Windows → Type 0
IsSeen w = ForSome w.seen (λ steps. (1 ≤ steps)
    × (steps + most_period_size ≤ w.settings.keep + w.settings.ahead))
