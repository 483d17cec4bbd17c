-- The blocks that are due once octets were given, whatever octets come: those of the windows that
-- are closed.
use Rattle.std.specs.Prelude.{ℕ, ◌≡◌, ◌+◌, ◌<◌, ◌≤◌, List, [], ◌∷◌, Bool, Option, Some, length, drop}
use Rattle.tm_conv.specs.declared.rates.Rate.{Rate}
use Rattle.tm_conv.specs.Path.{steps_size}
use Rattle.tm_viterbi.specs.Starts.{first_start}
use Rattle.tm_viterbi.specs.Settings.{Settings}
use Rattle.tm_viterbi.specs.WindowBlock.{WindowBlock}
use Rattle.tm_viterbi.specs.Blocks.{IsBlock}

-- where a window begins: its start set, its first step, and the octets from there on
pub record Place : Type 0 where
  pub starts : Option ℕ
  pub t : ℕ
  pub octets : List ℕ

-- a window is closed once more than keep+ahead steps are there, and this is its block
pub record Closes (rate : Rate) (invert : Bool) (keep ahead : ℕ) (at : Place)
    (block : WindowBlock) : Type 0 where
  pub room : steps_size rate at.t (keep + ahead + 1) ≤ length at.octets
  pub is_block : IsBlock rate invert keep ahead at.starts at.t (keep + ahead + 1) at.octets block

-- where the next window begins
abbrev pub after_block : Rate → Place → WindowBlock → Place
after_block rate at block = record {
  starts = Some block.end_state;
  t = at.t + block.kept;
  octets = drop (steps_size rate at.t block.kept) at.octets;
}

-- from one place to another by closed windows
abbrev pub Closed : Rate → Bool → ℕ → ℕ → Place → List WindowBlock → Place → Type 0
Closed rate invert keep ahead from [] to = from ≡ to
Closed rate invert keep ahead from (block ∷ blocks) to =
    Closes rate invert keep ahead from block × Closed rate invert keep ahead
    (after_block rate from block) blocks to

-- where the first window begins
abbrev pub first_place : Settings → List ℕ → Place
first_place s octets = record { starts = first_start s.start; t = 0; octets = octets }

-- the blocks of the first windows of the octets, each of them closed
abbrev pub AreFirst : Settings → List ℕ → List WindowBlock → Type 0
AreFirst s octets blocks = (to : Place) × Closed s.rate s.invert s.keep s.ahead
    (first_place s octets) blocks to

-- the blocks of all closed windows of the octets: all blocks but the last
pub record AreDue (s : Settings) (octets : List ℕ) (blocks : List WindowBlock) : Type 0 where
  pub to : Place
  pub closed : Closed s.rate s.invert s.keep s.ahead (first_place s octets) blocks to
  pub few : length to.octets < steps_size s.rate to.t (s.keep + s.ahead + 1)
