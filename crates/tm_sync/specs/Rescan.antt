-- Where markers with a whole codeblock after them stand in a list of bits, where they are looked for
-- inside codeblocks too. Without that they stand where `Places` says.
use Rattle.std.specs.Prelude.{ℕ, ◌+◌, ◌*◌, ◌-◌, ◌≤◌, Bool, false, not, ◌&&◌, ◌||◌, ◌==◌, if◌then◌else◌, nat_le, nat_lt, List, [], ◌∷◌, length, drop, Option, Some, None, is_none}
use Rattle.std.specs.List.{list_all, range_with_len}
use Rattle.std.specs.Option.{option_map_or}
use Rattle.tm_base.specs.Marker.{marker_size, most_tolerance}
use Rattle.tm_sync.specs.declared.found.Found.{Found}
use Rattle.tm_sync.specs.declared.found.Before.{Before}
use Rattle.tm_sync.specs.declared.found.Columns.{Columns}
use Rattle.tm_sync.specs.Bits.{flip}
use Rattle.tm_sync.specs.Places.{Rules, wrong_bits, match_of, found_at, place_at, before_next}

-- the bits of the last symbols of a codeblock: as many of each column as the code corrects
abbrev pub reach : Columns → ℕ
reach columns = columns.stride * columns.strength

-- the last symbols of a codeblock are part of it
abbrev pub Fits : Rules → Option Columns → Type 0
Fits rules None = Unit {0}
Fits rules (Some columns) = reach columns ≤ rules.block_bits

-- whether the codeblock of a place, received in this polarity, is sound: whether no column of it is
-- uncorrectable
abbrev pub Soundness : Type 0
Soundness = ℕ → Bool → Bool

-- the place before a bit, as far as the next one depends on it
pub record Last : Type 0 where
  -- the bits up to the end of its codeblock
  pub end : ℕ
  -- what stands before the first bit after that
  pub before : Before
  -- whether its codeblock is sound
  pub sound : Bool

-- what ends right before a bit
abbrev pub ends_at : ℕ → Option Last → Option Before
ends_at at None = None
ends_at at (Some last) = if at == last.end then Some last.before else None

-- whether a bit is part of the codeblock of the place before it, or of its marker
abbrev pub is_inside : ℕ → Option Last → Bool
is_inside at None = false
is_inside at (Some last) = nat_lt at last.end

-- Whether a place may be bridged, in this polarity: not where its 32 bits are nearly the marker of
-- the other one, nor where a marker stands some symbols of each column later. The codeblock there
-- may well be another codeword, since both codes are cyclic at full length, and have the complement
-- of each codeword.
abbrev pub may_bridge : Rules → Columns → Bool → List Bool → Bool
may_bridge rules columns inverted bits =
    nat_lt most_tolerance (wrong_bits (flip inverted) bits)
    && list_all (λ k. is_none (match_of rules (drop (columns.stride * k) bits)))
    (range_with_len 1 columns.strength)

-- a place that is not inside a codeblock, where it is bridged only if it may be
abbrev pub place_outside : Rules → Option Columns → List Bool → Option Found → Option Found
place_outside rules None bits place = place
place_outside rules (Some columns) bits None = None
place_outside rules (Some columns) bits (Some f) =
    if f.bridged && not (may_bridge rules columns f.inverted bits) then None else Some f

-- Whether a marker at a bit inside the codeblock of the place before it counts: anywhere in one that
-- is not sound, and in the last symbols of one that is, where no marker matches right after it.
abbrev pub is_open : Rules → Columns → ℕ → Last → List Bool → Bool
is_open rules columns at last bits = not last.sound
    || (nat_le last.end (at + reach columns)
    && is_none (match_of rules (drop (last.end - at) bits)))

-- the place that the first 32 bits are, as they match in this polarity, where its codeblock is sound
abbrev pub sound_place : Soundness → ℕ → List Bool → Option Bool → Option Found
sound_place sound at bits None = None
sound_place sound at bits (Some inverted) =
    if sound at inverted then Some (found_at at false inverted bits) else None

-- the place at a bit inside the codeblock of the place before it, with room for its own codeblock;
-- no further markers need to verify it
abbrev pub place_inside : Rules → Option Columns → Soundness → ℕ → Option Last → List Bool
    → Option Found
place_inside rules None sound at last bits = None
place_inside rules (Some columns) sound at None bits = None
place_inside rules (Some columns) sound at (Some last) bits =
    if nat_le (marker_size + rules.block_bits) (length bits) && is_open rules columns at last bits
    then sound_place sound at bits (match_of rules bits) else None

-- the place at the start of the bits, which follow `at` others, after this one
unfoldable pub place_here : Rules → Option Columns → Soundness → ℕ → Option Last → List Bool
    → Option Found
place_here rules columns sound at last bits =
    if is_inside at last
    then place_inside rules columns sound at last bits
    else place_outside rules columns bits (place_at rules at (ends_at at last) bits)

-- a place after another one, as the one before those that follow
abbrev pub last_at : Rules → Soundness → ℕ → Option Last → Found → Last
last_at rules sound at last f = record {
  end = at + marker_size + rules.block_bits;
  before = before_next (ends_at at last) f;
  sound = sound at f.inverted;
}

-- the places in the bits after `at` others, after this one: each bit is looked at
unfoldable pub places_after : Rules → Option Columns → Soundness → ℕ → Option Last → List Bool
    → List Found
places_after rules columns sound at last [] = []
places_after rules columns sound at last (b ∷ bits) =
    option_map_or (λ f. f ∷ places_after rules columns sound (at + 1)
    (Some (last_at rules sound at last f)) bits) (place_here rules columns sound at last (b ∷ bits))
    (places_after rules columns sound (at + 1) last bits)

-- the places in a list of bits, in their order; only with columns inside of codeblocks too
abbrev pub places_with : Rules → Option Columns → Soundness → List Bool → List Found
places_with rules columns sound bits = places_after rules columns sound 0 None bits
