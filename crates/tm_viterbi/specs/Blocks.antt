-- The blocks of soft octets in windows: each window is decoded as a whole, and all but the last
-- keep only their first steps.
use Rattle.std.specs.Prelude.{ℕ, ◌≡◌, ◌+◌, ◌-◌, ◌<◌, ◌≤◌, List, [], ◌∷◌, Bool, Option, Some, length, take, drop, min, nat_lt, if◌then◌else◌}
use Rattle.tm_conv.specs.declared.rates.Rate.{Rate}
use Rattle.tm_conv.specs.Path.{steps_size, path, register_after}
use Rattle.tm_conv.specs.Cost.{cost}
use Rattle.tm_conv.specs.Best.{IsBest}
use Rattle.tm_viterbi.specs.Starts.{starts_from, first_start}
use Rattle.tm_viterbi.specs.Settings.{Settings}
use Rattle.tm_viterbi.specs.WindowBlock.{WindowBlock}

-- the octets have this many whole steps from step t on
pub record AreSteps (rate : Rate) (t : ℕ) (octets : List ℕ) (count : ℕ) : Type 0 where
  pub whole : steps_size rate t count ≤ length octets
  pub most : length octets < steps_size rate t (count + 1)

-- the steps of a window where `remaining` steps remain: keep+ahead, or all of them
abbrev pub window_steps : ℕ → ℕ → ℕ → ℕ
window_steps keep ahead remaining = min remaining (keep + ahead)

-- how many of them are kept: all in the last window
abbrev pub kept_steps : ℕ → ℕ → ℕ → ℕ
kept_steps keep ahead remaining = if nat_lt (keep + ahead) remaining then keep else remaining

-- the block of the window that begins at step t with the octets, where `remaining` steps remain
pub record IsBlock (rate : Rate) (invert : Bool) (keep ahead : ℕ) (starts : Option ℕ)
    (t remaining : ℕ) (octets : List ℕ) (block : WindowBlock) : Type 0 where
  pub steps : block.steps ≡ window_steps keep ahead remaining
  pub kept : block.kept ≡ kept_steps keep ahead remaining
  pub best : IsBest (starts_from starts) rate invert t
      (take (steps_size rate t block.steps) octets) block.start block.bits
  pub metric : block.metric ≡ cost (path rate invert t block.start block.bits)
      (take (steps_size rate t block.steps) octets)
  pub end_state : block.end_state ≡ register_after block.start (take block.kept block.bits)
  pub dropped : block.dropped ≡ 0

-- all blocks of the remaining steps: each next window begins after the kept steps, from the
-- register after them alone
abbrev pub AreBlocks : Rate → Bool → ℕ → ℕ → Option ℕ → ℕ → ℕ → List ℕ → List WindowBlock → Type 0
AreBlocks rate invert keep ahead starts t remaining octets [] = remaining ≡ 0
AreBlocks rate invert keep ahead starts t remaining octets (block ∷ blocks) =
    (0 < remaining) × IsBlock rate invert keep ahead starts t remaining octets block
    × AreBlocks rate invert keep ahead (Some block.end_state) (t + block.kept)
    (remaining - block.kept)
    (drop (steps_size rate t block.kept) octets) blocks

-- the blocks of all whole steps of the octets, from step 0; an octet after them is left over
pub record AreBlocksOf (s : Settings) (octets : List ℕ) (blocks : List WindowBlock)
    (left : ℕ) : Type 0 where
  pub count : ℕ
  pub steps : AreSteps s.rate 0 octets count
  pub are : AreBlocks s.rate s.invert s.keep s.ahead (first_start s.start) 0 count octets blocks
  pub rest : length octets ≡ steps_size s.rate 0 count + left
