-- Bits that a search takes up to the one with which a place is found.
use Rattle.std.specs.Prelude.{◌≡◌, ℕ, ◌+◌, ◌-◌, ◌==◌, ◌<◌, ◌≤◌, Bool, not, List, [], ◌∷◌, ◌++◌, length, map, take, drop, Option, Some, None}
use Rattle.tm_sync.specs.Bits.{bits_bound}
use Rattle.tm_sync.specs.declared.found.Found.{Found}
use Rattle.tm_sync.specs.Places.{Rules, places}
use Rattle.tm_sync.specs.Searching.{Searching, SearchStandsFor, waiting_of}

-- bits that are passed as numbers, 0 and others
abbrev pub bits_in : List ℕ → List Bool
bits_in numbers = map (λ number. not (number == 0)) numbers

-- those of a list from one index on up to another
abbrev pub span : {T : Type 0} → ℕ → ℕ → List T → List T
span from to items = take (to - from) (drop from items)

-- The search was given these bits, of which the room holds those that it may look at again, and has
-- found these places and no others; or these and one more, after which the places are left that
-- came with the same bit.
abbrev pub Finds : Searching → List ℕ → List Bool → List Found → Option Found → Type 0
Finds search room bits found None = SearchStandsFor search room bits found
    × (places search.rules bits ≡ found)
Finds search room bits found (Some f) = SearchStandsFor search room bits (found ++ f ∷ [])
    × ((rest : List Found) × (places search.rules bits ≡ found ++ f ∷ rest)
    × (length rest ≡ waiting_of search))

-- Bits of a list are taken from one index on up to another, after bits with which these places were
-- found. With fewer of them no further place is found: one that is found is found with the last.
abbrev pub NoneSooner : Rules → List Bool → List Found → List Bool → ℕ → ℕ → Type 0
NoneSooner rules given found bits from end = (n : ℕ) → from ≤ n → n < end
    → places rules (given ++ span from n bits) ≡ found

-- A search takes bits of a list from one index on up to another, and goes on to them; with fewer of
-- them no further place is found.
pub record Takes (before now : Searching) (room room_now : List ℕ) (bits : List Bool)
    (from end : ℕ) : Type 0 where
  pub rules : now.rules ≡ before.rules
  pub order : from ≤ end
  pub goes_on : (given : List Bool) (found : List Found) → length given + (end - from) ≤ bits_bound
      → SearchStandsFor before room given found
      → SearchStandsFor now room_now (given ++ span from end bits) found
      × NoneSooner before.rules given found bits from end
