-- What contracts see of the search that looks inside codeblocks too, and of the bits that it has
-- not passed.
use Rattle.std.specs.Prelude.{◌≡◌, ℕ, ◌+◌, ◌^◌, ◌<◌, ◌≤◌, Bool, true, if◌then◌else◌, nat_le, List, [], ◌++◌, length, drop, Option, Some, None, IfSome}
use Rattle.tm_base.specs.Marker.{marker_size}
use Rattle.tm_sync.specs.declared.found.Found.{Found}
use Rattle.tm_sync.specs.declared.found.Columns.{Columns}
use Rattle.tm_sync.specs.declared.finder.Previous.{Previous}
use Rattle.tm_sync.specs.declared.finder.Ahead.{Ahead}
use Rattle.tm_sync.specs.declared.finder.Ahead.TheVariants.{Nothing, TooFew, Place}
use Rattle.tm_sync.specs.Bits.{bits_bound}
use Rattle.tm_sync.specs.Places.{Rules, settled_by}
use Rattle.tm_sync.specs.Rescan.{Soundness, Last, is_open, place_here, places_after}

-- a room has fewer octets than this
abbrev pub octets_bound : ℕ
octets_bound = 2 ^ 32

-- the bits of a stream that are not passed yet, in a room of `size` octets
pub record Recent : Type 0 where
  pub bits : List Bool
  pub size : ℕ

-- what contracts see of a search
pub record Finding : Type 0 where
  pub rules : Rules
  pub columns : Option Columns
  -- the bits passed
  pub passed : ℕ
  -- the place before the next bit, where that is part of its codeblock or right behind it
  pub last : Option Last

-- the place before the next bit, of whose codeblock `previous.left` bits are left
abbrev pub last_of : ℕ → Previous → Last
last_of passed previous = record {
  end = passed + previous.left;
  before = previous.before;
  sound = previous.sound;
}

-- the codeblock of that place is whole
abbrev pub IsWhole : Finding → List Bool → Type 0
IsWhole f bits = IfSome f.last (λ l. l.end ≤ f.passed + length bits)

-- a place, where the next bit is still part of its codeblock or right behind it
abbrev pub kept_at : ℕ → Option Last → Option Last
kept_at at None = None
kept_at at (Some last) = if nat_le at last.end then Some last else None

-- the places from the next bit on
abbrev pub places_left : Finding → Soundness → List Bool → List Found
places_left f sound bits = places_after f.rules f.columns sound f.passed f.last bits

-- Bits were passed at which no place stands, whatever bits come: of fewer than 2^63 in all.
pub record Passes (f f' : Finding) (bits bits' : List Bool) : Type 0 where
  pub rules : f'.rules ≡ f.rules
  pub columns : f'.columns ≡ f.columns
  -- how many
  pub count : ℕ
  pub within : count ≤ length bits
  pub rest : bits' ≡ drop count bits
  pub passed : f.passed + length bits < bits_bound → f'.passed ≡ f.passed + count
  pub same : f.passed + length bits < bits_bound → (sound : Soundness) (more : List Bool)
      → places_left f sound (bits ++ more) ≡ places_left f' sound (bits' ++ more)

-- each codeblock is sound
abbrev pub always : Soundness
always place inverted = true

-- a place stands at the next bit, whatever bits come, if its codeblock is sound
pub record Finds (f : Finding) (bits : List Bool) (place : Found) : Type 0 where
  pub room : marker_size + f.rules.block_bits ≤ length bits
  pub at : place.place ≡ f.passed
  pub here : (more : List Bool)
      → place_here f.rules f.columns always f.passed f.last (bits ++ more) ≡ Some place

-- whether its codeblock is sound, as these say; without columns it does not matter
abbrev pub Tells : Finding → Soundness → Found → Bool → Type 0
Tells f says place sound = IfSome f.columns (λ _. sound ≡ says place.place place.inverted)

-- none stands in these bits any more, and they are too few for one that is searched for
pub record Ends (f : Finding) (bits : List Bool) : Type 0 where
  pub none : (sound : Soundness) → places_left f sound bits ≡ []
  pub few : length bits < settled_by f.rules.verify f.rules.block_bits

-- no place stands at any of the next `count` bits, whatever bits come
abbrev pub NoneIn : Finding → ℕ → List Bool → Type 0
NoneIn f count bits = (sound : Soundness) (more : List Bool) (q : ℕ) → q < count
    → place_here f.rules f.columns sound (f.passed + q) f.last (drop q (bits ++ more)) ≡ None

-- what stands at the next bits
abbrev pub Stands : Finding → List Bool → Ahead → Type 0
Stands f bits (Nothing count) = (0 < count) × (count ≤ length bits) × NoneIn f count bits
Stands f bits TooFew = Ends f bits
Stands f bits (Place found) = Finds f bits found

-- the next bit is inside a codeblock, and a marker there counts
abbrev pub IsOpen : Finding → List Bool → Type 0
IsOpen f bits = (columns : Columns) × (last : Last) × (f.columns ≡ Some columns)
    × (f.last ≡ Some last) × (is_open f.rules columns f.passed last bits ≡ true)
