-- What is written to the start of a buffer.
use Rattle.std.specs.Prelude.{◌≡◌, ℕ, ◌^◌, ◌<◌, Bool, true, false, nat_le, List, ◌++◌, length, take, drop, Option, Some, None}

-- whether there is as much room as is needed
abbrev pub has_room : Option ℕ → ℕ → Bool
has_room None room = false
has_room (Some needed) room = nat_le needed room

-- a call has written this to the start of a buffer, and answers how much it is
abbrev pub Fills : {T : Type 0} → Option ℕ → List T → List T → Type 0
Fills None buffer items = ⊥
Fills (Some count) buffer items = (count ≡ length items) × (take count buffer ≡ items)

-- an array to whose start these were written, and which is as it was behind them
abbrev pub over : {T : Type 0} → List T → List T → List T
over items array = items ++ drop (length items) array

-- of `all` things `count` were written, and whether a thing was dropped is known
pub record IsAll (is_short : Bool) (count all : ℕ) : Type 0 where
  pub cut : is_short ≡ true → count < all
  pub whole : is_short ≡ false → count ≡ all

-- the most octets that are taken at a time
abbrev pub most_taken : ℕ
most_taken = 2 ^ 40
