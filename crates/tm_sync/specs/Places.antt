-- Where markers with a whole codeblock after them stand in a list of bits (CCSDS 131.0-B, Frame
-- Synchronization).
use Rattle.std.specs.Prelude.{ℕ, zero, suc, ◌+◌, ◌*◌, ◌-◌, Bool, true, false, if◌then◌else◌, ◌&&◌, nat_le, nat_lt, List, [], ◌∷◌, length, take, drop, Option, Some, None}
use Rattle.std.specs.Option.{option_map_or}
use Rattle.tm_base.specs.Marker.{marker_size}
use Rattle.tm_sync.specs.declared.found.Found.{Found}
use Rattle.tm_sync.specs.declared.found.Before.{Before}
use Rattle.tm_sync.specs.Bits.{flip, differences, in_polarity, marker_bits}

-- how places are found
pub record Rules : Type 0 where
  -- the most wrong bits with which a marker still matches
  pub tolerance : ℕ
  -- the most places in a row that are taken though no marker matches there
  pub fly : ℕ
  -- whether inverted markers match too
  pub either : Bool
  -- the bits of a codeblock
  pub block_bits : ℕ
  -- how many further markers must match before a place that is searched for is taken
  pub verify : ℕ

-- the number of the first 32 bits that differ from the marker, or from the inverted marker
unfoldable pub wrong_bits : Bool → List Bool → ℕ
wrong_bits inverted bits = differences (take marker_size bits) (in_polarity inverted marker_bits)

-- the polarity in which the first 32 bits match, upright (false) or inverted (true); None where
-- they match in no way
unfoldable pub match_of : Rules → List Bool → Option Bool
match_of rules bits =
    if nat_le (wrong_bits false bits) rules.tolerance then Some false
    else (if rules.either && nat_le (wrong_bits true bits) rules.tolerance then Some true else None)

-- whether a match is in this polarity
abbrev pub matches_in : Option Bool → Bool → Bool
matches_in None inverted = false
matches_in (Some true) inverted = inverted
matches_in (Some false) inverted = flip inverted

-- after each of a number of codeblocks with their markers stand 32 bits more, and they match in
-- this polarity
unfoldable pub are_verified : Rules → Bool → ℕ → List Bool → Bool
are_verified rules inverted zero bits = true
are_verified rules inverted (suc count) bits =
    let next = drop (marker_size + rules.block_bits) bits in
    nat_le marker_size (length next) && (matches_in (match_of rules next) inverted
    && are_verified rules inverted count next)

-- a match, where the markers after it verify it
abbrev pub verified : Rules → List Bool → Option Bool → Option Bool
verified rules bits None = None
verified rules bits (Some inverted) = if are_verified rules inverted rules.verify bits
    then Some inverted else None

-- The polarity in which a place stands at the start of the bits: that in which the first 32 match.
-- Where no codeblock ends right before them, further markers must verify it.
abbrev pub place_polarity : Rules → Option Before → List Bool → Option Bool
place_polarity rules None bits = verified rules bits (match_of rules bits)
place_polarity rules (Some before) bits = match_of rules bits

-- the bits from a place up to the last marker that verifies it
abbrev pub verify_bits : Rules → ℕ
verify_bits rules = rules.verify * (marker_size + rules.block_bits)

-- how many bits, from a place on, have room for its codeblock and for the markers that verify it
abbrev pub settled_by : ℕ → ℕ → ℕ
settled_by zero size = marker_size + size
settled_by (suc count) size = suc count * (marker_size + size) + marker_size

-- the place whose 32 bits these are
abbrev pub found_at : ℕ → Bool → Bool → List Bool → Found
found_at at bridged inverted bits = record {
  place = at;
  distance = wrong_bits inverted bits;
  bridged = bridged;
  inverted = inverted;
}

-- The place that the first 32 bits are, as they match in this polarity. Where they match in no way,
-- right after a codeblock, and fewer than `fly` places in a row were bridged, theirs is bridged: it
-- is taken all the same, in the polarity of the place before.
abbrev pub place_by : Rules → ℕ → Option Before → List Bool → Option Bool → Option Found
place_by rules at before bits (Some inverted) = Some (found_at at false inverted bits)
place_by rules at (Some before) bits None = if nat_lt before.bridged rules.fly
    then Some (found_at at true before.inverted bits) else None
place_by rules at None bits None = None

-- the place at the start of the bits, which follow `at` others, where they have room for its
-- codeblock
unfoldable pub place_at : Rules → ℕ → Option Before → List Bool → Option Found
place_at rules at before bits = if nat_le (marker_size + rules.block_bits) (length bits)
    then place_by rules at before bits (place_polarity rules before bits) else None

-- what stands before the first bit after a place's codeblock
abbrev pub before_next : Option Before → Found → Before
before_next None f = record { inverted = f.inverted; bridged = if f.bridged then 1 else 0 }
before_next (Some before) f = record {
  inverted = f.inverted;
  bridged = if f.bridged then before.bridged + 1 else 0;
}

-- The places in the bits after `at` others. The first `skip` bits belong to a codeblock, and
-- `before` ends right after them. Where a place stands, the search goes on after its codeblock,
-- and else at the next bit.
unfoldable pub places_from : Rules → ℕ → ℕ → Option Before → List Bool → List Found
places_from rules at skip before [] = []
places_from rules at (suc skip) before (b ∷ bits) = places_from rules (at + 1) skip before bits
places_from rules at zero before (b ∷ bits) =
    option_map_or (λ f. f ∷ places_from rules (at + 1) (marker_size - 1 + rules.block_bits)
    (Some (before_next before f)) bits) (place_at rules at before (b ∷ bits))
    (places_from rules (at + 1) 0 None bits)

-- the places in a list of bits, in their order
abbrev pub places : Rules → List Bool → List Found
places rules bits = places_from rules 0 0 None bits

-- the same place in the other polarity
abbrev pub complemented_place : Found → Found
complemented_place f = record f { inverted = flip f.inverted }
