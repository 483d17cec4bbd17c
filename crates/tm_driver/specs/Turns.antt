-- The octets that a turn reads.
use Rattle.std.specs.Prelude.{◌≡◌, ℕ, ◌+◌, ◌-◌, ◌<◌, min, List, [], ◌∷◌, length, take, Option}
use Rattle.tm_base.specs.Outside.{Read, append_reads}

-- the most of them
abbrev pub turn_size : ℕ
turn_size = 4096

-- octets but for the last of them, as many as a turn reads at most
abbrev pub but_last_turn : List ℕ → List ℕ
but_last_turn octets = take (length octets - turn_size) octets

-- Reads of so many octets at most: each asks for all that are left of them, or for those of a turn,
-- where these are fewer, and after one that gave nothing there is none.
abbrev pub AreTurns : (most : ℕ) → List Read → Type 0
AreTurns most [] = Unit {0}
AreTurns most (read ∷ more) = (0 < most) × (read.room ≡ min turn_size most)
    × (read.count ≡ 0 → more ≡ []) × AreTurns (most - read.count) more

-- the reads of a call, where the source says which: up to the limit, and one octet more
pub record ReadsInTurns (limit : ℕ) (before now : Option (List Read)) : Type 0 where
  pub reads : List Read
  pub asked : now ≡ append_reads before reads
  pub are : AreTurns (limit + 1) reads
