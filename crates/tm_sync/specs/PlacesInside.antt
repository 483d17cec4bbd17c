-- What the laws say of places where they are looked for inside codeblocks too.
use Rattle.std.specs.Prelude.{◌≡◌, ◌⊎◌, ℕ, ◌+◌, ◌<◌, ◌≤◌, Bool, true, false, List, [], ◌∷◌, ◌++◌, length, drop, Some, None, is_none}
use Rattle.std.specs.List.{AllByRecursion}
use Rattle.tm_base.specs.Marker.{marker_size}
use Rattle.tm_sync.specs.declared.found.Found.{Found}
use Rattle.tm_sync.specs.declared.found.Columns.{Columns}
use Rattle.tm_sync.specs.Places.{Rules, match_of}
use Rattle.tm_sync.specs.Rescan.{Soundness, may_bridge, reach}

-- the bits up to the end of a place's codeblock
abbrev pub end_of : Rules → Found → ℕ
end_of rules f = f.place + marker_size + rules.block_bits

-- A marker at this bit, in this polarity, counts inside a place, that is in its marker or in its
-- codeblock: it matches, and its own codeblock has room and is sound; and that of the place is not,
-- or the marker stands in its last symbols, and none matches right after it.
pub record CountsInside (rules : Rules) (columns : Columns) (sound : Soundness) (bits : List Bool)
    (f : Found) (at : ℕ) (inverted : Bool) : Type 0 where
  pub after : f.place < at
  pub before : at < end_of rules f
  pub matches : match_of rules (drop at bits) ≡ Some inverted
  pub room : at + marker_size + rules.block_bits ≤ length bits
  pub is_sound : sound at inverted ≡ true
  pub is_open : (sound f.place f.inverted ≡ false)
      ⊎ ((end_of rules f ≤ at + reach columns)
      × (match_of rules (drop (end_of rules f) bits) ≡ None))

-- A place hides the markers at a bit inside it: its codeblock is sound, and the bit stands before
-- its last symbols, or a marker matches right after it.
abbrev pub Hides : Rules → Columns → Soundness → List Bool → ℕ → Found → Type 0
Hides rules columns sound bits at f =
    (f.place < at) × (at < end_of rules f) × (sound f.place f.inverted ≡ true)
    × ((at + reach columns < end_of rules f)
    ⊎ (is_none (match_of rules (drop (end_of rules f) bits)) ≡ false))

-- Places rise, and one that stands inside the one before it is not bridged, but counts there.
abbrev pub AreInOrder : Rules → Columns → Soundness → List Bool → List Found → Type 0
AreInOrder rules columns sound bits [] = Unit {0}
AreInOrder rules columns sound bits (f ∷ []) = Unit {0}
AreInOrder rules columns sound bits (f ∷ g ∷ found) =
    (f.place < g.place)
    × (g.place < end_of rules f
    → (g.bridged ≡ false) × CountsInside rules columns sound bits f g.place g.inverted)
    × AreInOrder rules columns sound bits (g ∷ found)

-- of three in a row the last stands more than `bits` bits after the first
abbrev pub AreApart : ℕ → List Found → Type 0
AreApart bits [] = Unit {0}
AreApart bits (f ∷ []) = Unit {0}
AreApart bits (f ∷ g ∷ []) = Unit {0}
AreApart bits (f ∷ g ∷ h ∷ found) = (f.place + bits < h.place) × AreApart bits (g ∷ h ∷ found)

-- no marker counts inside a place
abbrev pub HasNoneInside : Rules → Columns → Soundness → List Bool → Found → Type 0
HasNoneInside rules columns sound bits f =
    (at : ℕ) (inverted : Bool) → CountsInside rules columns sound bits f at inverted → ⊥

-- a place is bridged only where it may be
abbrev pub MayStand : Rules → Columns → List Bool → Found → Type 0
MayStand rules columns bits f =
    f.bridged ≡ true → may_bridge rules columns f.inverted (drop f.place bits) ≡ true

-- no codeblock is sound: then no marker counts inside a place, and what `Rescan` changes is only
-- that some places may not be bridged
abbrev pub never : Soundness
never place inverted = false

-- Both lists begin with the same places. Then the first one has a place that counts inside the last
-- of these, and all that are left of the others stand after it.
pub record DifferInside (rules : Rules) (columns : Columns) (sound : Soundness) (bits : List Bool)
    (found others : List Found) : Type 0 where
  pub same : List Found
  pub last : Found
  pub next : Found
  pub rest : List Found
  pub others_left : List Found
  pub found_are : found ≡ same ++ (last ∷ next ∷ rest)
  pub others_are : others ≡ same ++ (last ∷ others_left)
  pub counts : CountsInside rules columns sound bits last next.place next.inverted
  pub before : AllByRecursion (λ g. next.place < g.place) others_left
