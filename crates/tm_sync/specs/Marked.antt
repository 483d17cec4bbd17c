-- A stream of bits in which marked codeblocks were sent: gaps, marker parts and codeblocks.
use Rattle.std.specs.Prelude.{◌≡◌, ℕ, ◌+◌, ◌≤◌, ◌<◌, Bool, true, false, List, [], ◌∷◌, ◌++◌, length, drop, Option, Some, None, MatchOption, ◌⊎◌, take}
use Rattle.tm_base.specs.Marker.{marker_size}
use Rattle.tm_sync.specs.declared.found.Found.{Found}
use Rattle.tm_sync.specs.declared.found.Before.{Before}
use Rattle.tm_sync.specs.Bits.{marker_bits}
use Rattle.tm_sync.specs.Places.{Rules, match_of, place_polarity, before_next, found_at}

-- what came of one marked codeblock that was sent: bits that are no part of it, its marker part and
-- its block part
pub record Entry : Type 0 where
  pub gap : List Bool
  pub marker : List Bool
  pub block : List Bool

-- the bits of the entries, and a last gap
abbrev pub joined : List Entry → List Bool → List Bool
joined [] last = last
joined (e ∷ entries) last = e.gap ++ (e.marker ++ (e.block ++ joined entries last))

-- what ends right before the bits after a gap: no codeblock, where the gap has any bits
abbrev pub ready : List Bool → Option Before → Option Before
ready [] before = before
ready (b ∷ gap) before = None

-- The bits begin with a gap, and at no place in it, with room for a codeblock, do 32 bits match so
-- that a place stands there: at its first bit in no way, where a codeblock ends right before it,
-- and elsewhere in none that further markers verify.
abbrev pub HasNoMarker : Rules → Option Before → List Bool → List Bool → Type 0
HasNoMarker rules before gap bits = (q : ℕ) → q < length gap
    → q + marker_size + rules.block_bits ≤ length bits
    → place_polarity rules (ready (take q gap) before) (drop q bits) ≡ None

-- a gap directly follows a codeblock only where no place may be bridged there, or no codeblock
-- has room
abbrev pub MayGap : Rules → Option Before → List Bool → List Bool → Type 0
MayGap rules before [] bits = Unit {0}
MayGap rules None (b ∷ gap) bits = Unit {0}
MayGap rules (Some before) (b ∷ gap) bits =
    (rules.fly ≤ before.bridged) ⊎ (length bits < marker_size + rules.block_bits)

-- An entry whose marker part matches in no way is bridged: it directly follows another one, and
-- fewer than `fly` places in a row were bridged before it.
abbrev pub MayBridge : Rules → Option Before → Entry → Option Bool → Type 0
MayBridge rules before e (Some inverted) = Unit {0}
MayBridge rules before e None = (e.gap ≡ []) × MatchOption before ⊥ (λ b. b.bridged < rules.fly)

-- the place of a marker part that matches in this way; a bridged one has the polarity of the place
-- before
abbrev pub place_by_marker : ℕ → Option Before → Entry → Option Bool → Found
place_by_marker at before e (Some inverted) = found_at at false inverted e.marker
place_by_marker at None e None = found_at at true false e.marker
place_by_marker at (Some before) e None = found_at at true before.inverted e.marker

-- the place of an entry that follows `at` bits
abbrev pub place_of : Rules → ℕ → Option Before → Entry → Found
place_of rules at before e = place_by_marker (at + length e.gap) before e (match_of rules e.marker)

-- the places of entries that follow `at` bits
abbrev pub places_of : Rules → ℕ → Option Before → List Entry → List Found
places_of rules at before [] = []
places_of rules at before (e ∷ entries) =
    let f = place_of rules at before e in
    f ∷ places_of rules (f.place + marker_size + rules.block_bits)
    (Some (before_next before f)) entries

-- an entry at the start of these bits
pub record IsEntry (rules : Rules) (before : Option Before) (e : Entry)
    (bits : List Bool) : Type 0 where
  pub marker : length e.marker ≡ marker_size
  pub block : length e.block ≡ rules.block_bits
  pub gap : HasNoMarker rules before e.gap bits
  pub waits : MayGap rules before e.gap bits
  pub bridged : MayBridge rules before e (match_of rules e.marker)
  -- where no codeblock ends right before its marker part, further markers verify a match of it
  pub verified : place_polarity rules (ready e.gap before) (drop (length e.gap) bits)
      ≡ match_of rules e.marker

-- entries after `at` bits, and a last gap
abbrev pub AreEntries : Rules → ℕ → Option Before → List Entry → List Bool → Type 0
AreEntries rules at before [] last = HasNoMarker rules before last last
    × MayGap rules before last last
AreEntries rules at before (e ∷ entries) last =
    let f = place_of rules at before e in
    IsEntry rules before e (joined (e ∷ entries) last)
    × AreEntries rules (f.place + marker_size + rules.block_bits)
    (Some (before_next before f)) entries last

-- the bits are a marked stream of these entries
pub record IsMarked (rules : Rules) (bits : List Bool) (entries : List Entry)
    (last : List Bool) : Type 0 where
  pub parts : bits ≡ joined entries last
  pub are_entries : AreEntries rules 0 None entries last

-- codeblocks as they are sent, each with the marker before it and no gap
abbrev pub clean_entries : List (List Bool) → List Entry
clean_entries [] = []
clean_entries (block ∷ blocks) = record { gap = []; marker = marker_bits; block = block }
    ∷ clean_entries blocks

-- the places of codeblocks of this size that are sent in this way
abbrev pub clean_places : ℕ → ℕ → List (List Bool) → List Found
clean_places block_bits at [] = []
clean_places block_bits at (block ∷ blocks) =
    record { place = at; distance = 0; bridged = false; inverted = false }
    ∷ clean_places block_bits (at + marker_size + block_bits) blocks
