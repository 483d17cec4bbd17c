-- What a receiver says of each codeblock that it finds in a list of bits.
use Rattle.std.specs.Prelude.{◌≡◌, ℕ, Bool, true, false, ◌||◌, if◌then◌else◌, List, [], ◌∷◌, ◌++◌}
use Rattle.std.specs.List.{AllByRecursion}
use Rattle.tm_config.specs.Configuration.{Configuration, correctable}
use Rattle.tm_rs_code.specs.Nearest.{IsNearest}
use Rattle.tm_rs.specs.declared.answers.Answer.{Answer}
use Rattle.tm_rs.specs.declared.answers.Answer.TheVariants.{Fixed, Beyond}
use Rattle.tm_rs.specs.Answers.{found}
use Rattle.tm_sync.specs.declared.found.Found.{Found}
use Rattle.tm_sync.specs.Places.{complemented_place}
use Rattle.tm_codeblock.specs.ReceivedCodeblock.{codeblock_at, received_columns, frame_of, places_in}

-- what is said of one codeblock: where it stands among the received bits, the number of the first
-- symbol of its marker among all that were given, an answer for each column, and its frame
pub record ItemValue : Type 0 where
  pub found : Found
  pub symbol : ℕ
  pub answers : List Answer
  pub frame : List ℕ

-- the answer of a column, and the codeword nearest to it within the repair bound; of a column
-- beyond it, the column as it was received
pub record IsRepaired (c : Configuration) (column : List ℕ) (answer : Answer) (word : List ℕ)
    : Type 0 where
  pub nearest : IsNearest (correctable c.code) c.repair column (found answer word)
  pub left : answer ≡ Beyond → word ≡ column

-- so of each column
abbrev pub AreNearest : Configuration → List (List ℕ) → List Answer → List (List ℕ) → Type 0
AreNearest c [] [] [] = Unit {0}
AreNearest c (column ∷ columns) (answer ∷ answers) (word ∷ words) =
    IsRepaired c column answer word × AreNearest c columns answers words
AreNearest c columns answers words = ⊥

-- no answer is Beyond
abbrev pub are_fixed : List Answer → Bool
are_fixed [] = true
are_fixed (Fixed d ∷ answers) = are_fixed answers
are_fixed (Beyond ∷ answers) = false

-- whether a frame is given: where every column is repaired, or what is left of it is passed too
abbrev pub is_given : Configuration → List Answer → Bool
is_given c answers = are_fixed answers || c.pass_bad

-- what is said of the codeblock of a place but for its symbol, and its frame where that is given
pub record IsItem (c : Configuration) (f : Found) (codeblock : List ℕ)
    (item : ItemValue) : Type 0 where
  pub place : item.found ≡ f
  pub words : List (List ℕ)
  pub nearest : AreNearest c (received_columns c codeblock) item.answers words
  pub frame : item.frame ≡ (if is_given c item.answers then frame_of c codeblock words else [])

-- an item for each of these places
abbrev pub AreItemsOf : Configuration → List Bool → List Found → List ItemValue → Type 0
AreItemsOf c bits [] [] = Unit {0}
AreItemsOf c bits (f ∷ fs) (item ∷ items) =
    IsItem c f (codeblock_at c bits f) item × AreItemsOf c bits fs items
AreItemsOf c bits fs items = ⊥

-- items of the first of these places
abbrev pub AreFirstItemsOf : Configuration → List Bool → List Found → List ItemValue → Type 0
AreFirstItemsOf c bits fs [] = Unit {0}
AreFirstItemsOf c bits [] (item ∷ items) = ⊥
AreFirstItemsOf c bits (f ∷ fs) (item ∷ items) =
    IsItem c f (codeblock_at c bits f) item × AreFirstItemsOf c bits fs items

-- the items of received bits
abbrev pub AreItems : Configuration → List Bool → List ItemValue → Type 0
AreItems c bits items = AreItemsOf c bits (places_in c bits) items

-- each item says the symbol of its place, by these
abbrev pub HaveSymbols : (at : ℕ → ℕ) → List ItemValue → Type 0
HaveSymbols at items = AllByRecursion (λ item. item.symbol ≡ at item.found.place) items

-- the frames of items, one after the other
abbrev pub frames_of : List ItemValue → List ℕ
frames_of [] = []
frames_of (item ∷ items) = item.frame ++ frames_of items

-- the same item in the other polarity
abbrev pub complemented_item : ItemValue → ItemValue
complemented_item item = record item { found = complemented_place item.found }

-- the same, but that what is left of frames with an uncorrectable column is dropped
abbrev pub dropping : Configuration → Configuration
dropping c = record c { pass_bad = false }

-- the same item, with a frame only where every column is repaired
abbrev pub dropped_item : ItemValue → ItemValue
dropped_item item = record item { frame = if are_fixed item.answers then item.frame else [] }
