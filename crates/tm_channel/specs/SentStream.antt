-- Bits in which channel access data units were sent, with gaps and disturbance, and the items that
-- they come to.
use Rattle.std.specs.Prelude.{◌≡◌, ℕ, ◌+◌, ◌*◌, ◌≤◌, Bool, false, if◌then◌else◌, nat_le, List, [], ◌∷◌, ◌++◌, length, map, None, IfSome, replicate}
use Rattle.std.specs.List.{AllByRecursion}
use Rattle.tm_base.specs.Bits.{AreOctets, bits_of}
use Rattle.tm_base.specs.Marker.{marker_size}
use Rattle.tm_config.specs.Configuration.{Configuration, codeblock_length, is_uncoded}
use Rattle.tm_config.specs.declared.values.OuterCode.TheVariants.{Uncoded}
use Rattle.tm_rs_code.specs.Code.{distance}
use Rattle.tm_rs.specs.declared.answers.Answer.{Answer}
use Rattle.tm_rs.specs.declared.answers.Answer.TheVariants.{Fixed}
use Rattle.tm_sync.specs.declared.found.Found.{Found}
use Rattle.tm_sync.specs.Marked.{Entry, IsMarked, places_of}
use Rattle.tm_sync.specs.PlacesInside.{HasNoneInside, MayStand}
use Rattle.tm_codeblock.specs.Cadu.{codeblock_of, cadu}
use Rattle.tm_codeblock.specs.ReceivedCodeblock.{rules_of, codeblock_in, received_columns, columns_of, sound_in}
use Rattle.tm_inner.specs.SymbolPlaces.{symbols_before}
use Rattle.tm_channel.specs.Items.{ItemValue}

-- a transfer frame of a configuration
abbrev pub IsFrame : Configuration → List ℕ → Type 0
IsFrame c frame = (length frame ≡ c.frame_length) × AreOctets frame

-- what came of one unit that was sent: a gap, and what was received of its marker and of its
-- codeblock; and its frame
pub record SentUnit : Type 0 where
  pub received : Entry
  pub frame : List ℕ

-- what was received of each unit
abbrev pub entries_of : List SentUnit → List Entry
entries_of units = map (λ (u : SentUnit). u.received) units

-- the places of their markers
abbrev pub unit_places : Configuration → List SentUnit → List Found
unit_places c units = places_of (rules_of c) 0 None (entries_of units)

-- where places are looked for inside codeblocks too, each of these is bridged only where it may be,
-- and no marker counts inside one
abbrev pub StandAlone : Configuration → List Bool → List Found → Type 0
StandAlone c bits fs = IfSome (columns_of c) (λ columns.
    AllByRecursion (MayStand (rules_of c) columns bits) fs
    × AllByRecursion (HasNoneInside (rules_of c) columns (sound_in c bits) bits) fs)

-- the bits are these units, and after them a last gap
pub record IsSent (c : Configuration) (bits : List Bool) (units : List SentUnit)
    (last : List Bool) : Type 0 where
  pub marked : IsMarked (rules_of c) bits (entries_of units) last
  pub frames : AllByRecursion (λ u. IsFrame c u.frame) units
  pub alone : StandAlone c bits (unit_places c units)

-- the columns of the codeblock that was sent
abbrev pub sent_columns : Configuration → List ℕ → List (List ℕ)
sent_columns c frame = received_columns c (codeblock_of c frame)

-- what was received of a unit's codeblock, in the polarity of its place
abbrev pub unit_codeblock : Configuration → Found → SentUnit → List ℕ
unit_codeblock c f u = codeblock_in c f.inverted u.received.block

-- each column that differs from the one that was sent in at most as many symbols as the repair
-- bound answers in how many
abbrev pub AreRepaired : ℕ → List (List ℕ) → List (List ℕ) → List Answer → Type 0
AreRepaired bound [] [] [] = Unit {0}
AreRepaired bound (column ∷ columns) (sent ∷ others) (answer ∷ answers) =
    (distance sent column ≤ bound → answer ≡ Fixed (distance sent column))
    × AreRepaired bound columns others answers
AreRepaired bound columns others answers = ⊥

-- no column differs from the one that was sent in more symbols than the repair bound
abbrev pub AreWithin : ℕ → List (List ℕ) → List (List ℕ) → Type 0
AreWithin bound [] [] = Unit {0}
AreWithin bound (column ∷ columns) (sent ∷ others) =
    (distance sent column ≤ bound) × AreWithin bound columns others
AreWithin bound columns others = ⊥

-- what was received of a frame's codeblock is disturbed within the repair bound; with no outer code
-- it is not disturbed
pub record IsNear (c : Configuration) (frame codeblock : List ℕ) : Type 0 where
  pub columns : AreWithin c.repair (received_columns c codeblock) (sent_columns c frame)
  pub uncoded : c.code ≡ Uncoded → codeblock ≡ codeblock_of c frame

-- what is said of a unit: it stands at its marker, and each column and the frame come back where
-- they are disturbed within the bound
pub record IsAsSent (c : Configuration) (f : Found) (u : SentUnit) (item : ItemValue) : Type 0 where
  pub place : item.found ≡ f
  pub answers : AreRepaired c.repair (received_columns c (unit_codeblock c f u))
      (sent_columns c u.frame) item.answers
  pub frame : IsNear c u.frame (unit_codeblock c f u) → item.frame ≡ u.frame

-- the items are those of the units at these places
abbrev pub AreAsSent : Configuration → List Found → List SentUnit → List ItemValue → Type 0
AreAsSent c [] [] [] = Unit {0}
AreAsSent c (f ∷ fs) (u ∷ units) (item ∷ items) = IsAsSent c f u item × AreAsSent c fs units items
AreAsSent c fs units items = ⊥

-- no codeblock is disturbed beyond the repair bound
abbrev pub AreNear : Configuration → List Found → List SentUnit → Type 0
AreNear c [] [] = Unit {0}
AreNear c (f ∷ fs) (u ∷ units) = IsNear c u.frame (unit_codeblock c f u) × AreNear c fs units
AreNear c fs units = ⊥

-- the frames that were sent, one after the other
abbrev pub unit_frames : List SentUnit → List ℕ
unit_frames [] = []
unit_frames (u ∷ units) = u.frame ++ unit_frames units

-- ---- with no gap and no disturbance

-- the bits of the units of these frames, as they are sent
abbrev pub sent_bits : Configuration → List (List ℕ) → List Bool
sent_bits c [] = []
sent_bits c (frame ∷ frames) = bits_of (cadu c frame) ++ sent_bits c frames

-- nothing was wrong in any column
abbrev pub clean_answers : Configuration → List Answer
clean_answers c = if is_uncoded c.code then [] else replicate c.depth (Fixed 0)

-- the items of these frames, sent after `at` bits: one after the other, and nothing wrong
abbrev pub clean_items : Configuration → ℕ → List (List ℕ) → List ItemValue
clean_items c at [] = []
clean_items c at (frame ∷ frames) = record {
  found = record { place = at; distance = 0; bridged = false; inverted = false };
  symbol = symbols_before c.inner at;
  answers = clean_answers c;
  frame = frame;
} ∷ clean_items c (at + marker_size + 8 * codeblock_length c) frames

-- the frames that are found of these where they are sent so: none of 1 up to as many as further
-- markers are to verify the first
abbrev pub found_frames : Configuration → List (List ℕ) → List (List ℕ)
found_frames c frames = if nat_le (length frames) c.verify then [] else frames
