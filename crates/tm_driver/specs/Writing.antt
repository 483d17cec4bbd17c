-- The texts that a command writes, in the order in which they are written.
use Rattle.std.specs.Prelude.{◌≡◌, ℕ, Bool, true, false, List, [], ◌∷◌, ◌++◌, take}
use Rattle.tm_base.specs.Takers.{HandedOver}
use Rattle.tm_base.specs.Written.{Wrote}
use Rattle.tm_base.specs.declared.outside.Sink.{Ghosts}
use Rattle.tm_driver.specs.Courses.{SinkCall, sink_call}
use Rattle.tm_driver.specs.Meaning.{Output, Taken, WroteBoth}
use Rattle.tm_driver.specs.Texts.{BrokeText, TookText}
use Rattle.tm_driver.specs.declared.writer.Writer.{Writer}

-- a text for the output, or one for the notes
pub data Text : Type 0 where
  Out : List ℕ → Text
  Note : List ℕ → Text

-- the octets of texts that are for the output, and those for the notes
abbrev pub out_of : List Text → List ℕ
out_of [] = []
out_of (Out text ∷ texts) = text ++ out_of texts
out_of (Note text ∷ texts) = out_of texts

abbrev pub notes_of : List Text → List ℕ
notes_of [] = []
notes_of (Out text ∷ texts) = notes_of texts
notes_of (Note text ∷ texts) = text ++ notes_of texts

abbrev pub output_of : List Text → Output
output_of texts = record { out = out_of texts; notes = notes_of texts }

-- texts for the output alone, with these octets
pub record AreOut (texts : List Text) (octets : List ℕ) : Type 0 where
  pub out : out_of texts ≡ octets
  pub notes : notes_of texts ≡ []

-- these octets were taken for the output, in one text or in several
pub record TookOut {T : Type 0} (took : T → Text → T → Type 0) (before now : T)
    (octets : List ℕ) : Type 0 where
  pub texts : List Text
  pub handed : HandedOver took before texts now
  pub are : AreOut texts octets

-- ---- what the sinks took of texts

-- of a text that comes after others, whole, its sink took a part
abbrev pub TookPart : List Text → Text → Taken → Type 0
TookPart first (Out text) taken =
    ((count : ℕ) × Wrote taken.out taken.out_now (out_of first ++ take count text))
    × Wrote taken.notes taken.notes_now (notes_of first)
TookPart first (Note text) taken = Wrote taken.out taken.out_now (out_of first)
    × ((count : ℕ) × Wrote taken.notes taken.notes_now (notes_of first ++ take count text))

-- a sink failed in one of the texts, and nothing after it was begun
pub record StopsIn (texts : List Text) (taken : Taken) : Type 0 where
  pub first : List Text
  pub next : Text
  pub rest : List Text
  pub split : texts ≡ first ++ next ∷ rest
  pub part : TookPart first next taken

-- they were written, or a sink failed in one of them
abbrev pub WroteTexts : (failed : Bool) → List Text → Taken → Type 0
WroteTexts false texts taken = WroteBoth (output_of texts) taken
WroteTexts true texts taken = StopsIn texts taken

-- a sink failed in a text that comes after others, all of which were taken
abbrev pub FailsIn : List Text → Text → (out notes : SinkCall) → Type 0
FailsIn first (Out text) out notes =
    BrokeText out.before out.now out.is_last (out_of first) text
    × TookText notes.before notes.now (notes_of first)
FailsIn first (Note text) out notes = TookText out.before out.now (out_of first)
    × BrokeText notes.before notes.now notes.is_last (notes_of first) text

-- a sink failed in one of the last texts, and nothing after it was begun
pub record FailsAmong (fed last : List Text) (out notes : SinkCall) : Type 0 where
  pub middle : List Text
  pub next : Text
  pub rest : List Text
  pub split : last ≡ middle ++ next ∷ rest
  pub fails : FailsIn (fed ++ middle) next out notes

-- ---- what a text does to a writer

-- a sink took a text, or it failed in it
abbrev pub TookOrBroke : (failed : Bool) → SinkCall → List ℕ → Type 0
TookOrBroke false sink text = TookText sink.before sink.now text
TookOrBroke true sink text = BrokeText sink.before sink.now sink.is_last [] text

-- and the other sink stays as it was
abbrev pub WritesText : (failed : Bool) → Text → (out notes : SinkCall) → Type 0
WritesText failed (Out text) out notes = TookOrBroke failed out text × (notes.now ≡ notes.before)
WritesText failed (Note text) out notes = TookOrBroke failed notes text × (out.now ≡ out.before)

-- it holds the same two sinks, and after a fault nothing is written
pub record Writes {O N : Type 0} (o : Ghosts O) (n : Ghosts N) (before : Writer O N) (text : Text)
    (now : Writer O N) : Type 0 where
  pub out : now.out.ghost_name ≡ before.out.ghost_name
  pub notes : now.notes.ghost_name ≡ before.notes.ghost_name
  pub going : before.has_failed ≡ false → WritesText now.has_failed text
      (sink_call o before.out.now now.out.now) (sink_call n before.notes.now now.notes.now)
  pub failed : before.has_failed ≡ true → now ≡ before
