-- What contracts see of a search, and for which bits, given so far, and places, found so far, it
-- stands.
use Rattle.std.specs.Prelude.{◌≡◌, ℕ, zero, suc, ◌+◌, ◌-◌, ◌*◌, ◌/◌, ◌%◌, ◌^◌, ◌<◌, ◌≤◌, Bool, true, false, ◌==◌, List, [], ◌∷◌, ◌++◌, length, take, drop, slice_index, slice_index_or, if◌then◌else◌, nat_le, Option, Some, None, IsSome, unwrap_or, bit_or, ◌⊎◌}
use Rattle.std.specs.Option.{option_map, option_map_or, option_or}
use Rattle.tm_base.specs.Bits.{bit_number, number_of}
use Rattle.tm_base.specs.Marker.{marker_size, most_tolerance}
use Rattle.tm_sync.specs.declared.found.Found.{Found}
use Rattle.tm_sync.specs.declared.found.Before.{Before}
use Rattle.tm_sync.specs.declared.found.Awaited.{Awaited}
use Rattle.tm_sync.specs.Places.{Rules, match_of, are_verified, place_polarity, verify_bits, place_by, before_next, places}

-- what contracts see of a search
pub record Searching : Type 0 where
  pub rules : Rules
  -- the bits given
  pub pushed : ℕ
  -- the number that the last 32 of them are
  pub received : ℕ
  -- the bits before the end of the last codeblock found, and what stands there
  pub start : ℕ
  pub before : Option Before
  -- the first place after that end, and how many bits were given after its marker
  pub awaited : Option Awaited
  pub after : ℕ

-- how many bits were given after the marker that the search stands after
abbrev pub inside_of : Searching → Option ℕ
inside_of s = option_map (λ _. s.after) s.awaited

-- whether a whole codeblock follows that marker
abbrev pub is_pending : Searching → Bool
is_pending s = option_map_or (λ count. nat_le s.rules.block_bits count) (inside_of s) false

-- how many of the bits given may be part of the marker or the codeblock of the next place: those
-- from that marker on, or else fewer than decide whether a place stands at their start
abbrev pub begun_of : Searching → ℕ
begun_of s = option_map_or (λ count. marker_size + count) (inside_of s)
    (marker_size - 1 + verify_bits s.rules)

-- the most bits after the marker of a place that was not given yet
abbrev pub inside_by : ℕ → ℕ → ℕ
inside_by zero size = size
inside_by (suc count) size = suc count * (marker_size + size)

abbrev pub most_inside : Rules → ℕ
most_inside rules = inside_by rules.verify rules.block_bits

-- how many bits stand after the next marker once a place is given that had `count` after its own
abbrev pub inside_next : Rules → ℕ → Option ℕ
inside_next rules count =
    if nat_le (marker_size + rules.block_bits) count
    then Some (count - (marker_size + rules.block_bits)) else None

-- a place that was just found has no bits after its marker, or those by which it is verified
abbrev pub IsNewlyFound : Searching → Type 0
IsNewlyFound s = (unwrap_or (inside_of s) 0 ≡ 0) ⊎ (inside_of s ≡ Some (verify_bits s.rules))

-- how many codeblocks are whole and were not given
abbrev pub waiting_of : Searching → ℕ
waiting_of s =
    option_map_or (λ count. (count + marker_size) / (marker_size + s.rules.block_bits))
    (inside_of s) 0

-- ---- over whole lists
-- the bits up to the end of the last codeblock of these places
abbrev pub end_of : Rules → List Found → ℕ
end_of rules [] = 0
end_of rules (f ∷ []) = f.place + marker_size + rules.block_bits
end_of rules (f ∷ g ∷ found) = end_of rules (g ∷ found)

-- what follows that codeblock
abbrev pub before_past : Option Before → List Found → Option Before
before_past before [] = before
before_past before (f ∷ found) = before_past (Some (before_next before f)) found

-- the bits that decide whether a place stands at their start
abbrev pub deciding_bits : Rules → Option Before → ℕ
deciding_bits rules None = marker_size + verify_bits rules
deciding_bits rules (Some before) = marker_size

-- the first place in the bits after `at` others whose 32 bits are there, with those that verify
-- it, whether or not its codeblock is
unfoldable pub first_place : Rules → ℕ → Option Before → List Bool → Option Found
first_place rules at before [] = None
first_place rules at before (b ∷ bits) =
    if nat_le (deciding_bits rules before) (length (b ∷ bits))
    then option_or (place_by rules at before (b ∷ bits) (place_polarity rules before (b ∷ bits)))
    (first_place rules (at + 1) None bits)
    else None

-- the first place after the codeblocks of the places found
abbrev pub place_ahead : Rules → List Bool → List Found → Option Found
place_ahead rules bits found = first_place rules (end_of rules found) (before_past None found)
    (drop (end_of rules found) bits)

-- the bits after the marker of that place; None where there is no such place
abbrev pub inside_ahead : Rules → List Bool → List Found → Option ℕ
inside_ahead rules bits found = option_map (λ f. length bits - (f.place + marker_size))
    (place_ahead rules bits found)

-- a place, and what stands before the first bit after its codeblock
abbrev pub awaited_at : Option Before → Found → Awaited
awaited_at before f = record { found = f; next = before_next before f }

-- a search that was given these bits, and has found these places
abbrev pub search_of : Rules → List Bool → List Found → Searching
search_of rules bits found = record {
  rules = rules;
  pushed = length bits;
  received = number_of bits % 2 ^ marker_size;
  start = end_of rules found;
  before = before_past None found;
  awaited = option_map (awaited_at (before_past None found)) (place_ahead rules bits found);
  after = unwrap_or (inside_ahead rules bits found) 0;
}

-- Where more than a codeblock follows the awaited place's marker, markers verified the place: so
-- many codeblocks follow, each with a marker after it that matches as the first.
abbrev pub IsRun : Searching → List Bool → Option Awaited → Type 0
IsRun s bits None = Unit {0}
IsRun s bits (Some m) = (s.after ≤ s.rules.block_bits)
    ⊎ ((count : ℕ) × (s.after ≡ count * (marker_size + s.rules.block_bits))
    × (are_verified s.rules m.found.inverted count (drop m.found.place bits) ≡ true))

-- ---- the room
-- A room holds the bits before the last 32, from one on, as many as it has octets: each as 0 or 1,
-- bit i in octet i % size.
abbrev pub IsRecent : List ℕ → List Bool → ℕ → Type 0
IsRecent room bits from = (i : ℕ) → from ≤ i → i + marker_size < length bits
    → length bits ≤ i + marker_size + length room
    → slice_index room (i % length room) ≡ bit_number (slice_index_or bits i false)

-- from which bit on the room has to hold what was given
abbrev pub from_of : Searching → Option Awaited → ℕ
from_of s None = s.start
from_of s (Some m) = if nat_le s.after s.rules.block_bits then s.pushed else m.found.place

-- one bit more is given, and the room still holds what it held, and the bit that leaves the last 32
pub record Remembers (room room' : List ℕ) (bits : List Bool) (bit : Bool) : Type 0 where
  pub sized : length room' ≡ length room
  pub recent : (from : ℕ) → IsRecent room bits from → IsRecent room' (bits ++ bit ∷ []) from

-- It was given these bits, and can look at those from one on again.
pub record Recalls (s : Searching) (room : List ℕ) (bits : List Bool) (from : ℕ) : Type 0 where
  pub pushed : s.pushed ≡ length bits
  pub received : s.received ≡ number_of bits % 2 ^ marker_size
  pub sized : length room ≡ verify_bits s.rules
  pub recent : IsRecent room bits from

-- It was given these bits, of which the room holds those that it may look at again, and has found
-- these places: they are the first in the bits.
pub record SearchStandsFor (s : Searching) (room : List ℕ) (bits : List Bool)
    (found : List Found) : Type 0 where
  pub search : s ≡ search_of s.rules bits found
  pub found_first : take (length found) (places s.rules bits) ≡ found
  pub run : IsRun s bits s.awaited
  pub sized : length room ≡ verify_bits s.rules
  pub recent : IsRecent room bits (from_of s s.awaited)

-- It has counted one bit more, which is now the last of the 32, and has not looked at it.
pub record Counts (s s' : Searching) (bit : Bool) : Type 0 where
  pub rules : s'.rules ≡ s.rules
  pub received : s'.received ≡ bit_or (s.received * 2 % 2 ^ marker_size) (bit_number bit)
  pub pushed : s'.pushed ≡ s.pushed + 1
  pub start : s'.start ≡ s.start
  pub before : s'.before ≡ s.before
  pub awaited : s'.awaited ≡ s.awaited
  pub after : s'.after ≡ s.after

-- whether the last 32 bits directly follow a codeblock, where `since` bits stand after its end
abbrev pub is_right_after : ℕ → Option Before → Bool
is_right_after since None = false
is_right_after since (Some before) = since == marker_size

-- how many numbers of bits that differ from the marker, from one more than the tolerance on, show
-- that 32 bits match in no way
abbrev pub far_count : ℕ → Bool → ℕ
far_count tolerance either =
    if either then marker_size - 1 - 2 * tolerance else marker_size - tolerance

-- by these rules 32 bits match in no way where `least` of them, or up to `count` - 1 more, differ
-- from the marker
pub record TellFar (rules : Rules) (least count : ℕ) : Type 0 where
  pub tolerance : rules.tolerance ≤ most_tolerance
  pub least_is : least ≡ rules.tolerance + 1
  pub count_is : count ≡ far_count rules.tolerance rules.either

-- at none of the next `count` bits 32 bits match
abbrev pub NoneMatch : Rules → ℕ → List Bool → Type 0
NoneMatch rules count bits = (q : ℕ) → q < count → match_of rules (drop q bits) ≡ None

-- the first of the next `most` bits at which 32 bits match, or `most`
pub record IsFirstMatch (rules : Rules) (bits : List Bool) (most first : ℕ) : Type 0 where
  pub none : NoneMatch rules first bits
  pub some : first < most → IsSome (match_of rules (drop first bits))
