-- Where a source and sinks stand, and what they went through in a call.
use Rattle.std.specs.Prelude.{◌≡◌, ◌⊎◌, ℕ, ◌≤◌, Bool, true, false, List, Option}
use Rattle.std.specs.Io.KnownBytes.{IsAtEnd}
use Rattle.tm_base.specs.Outside.{Read, Rose}
use Rattle.tm_base.specs.declared.outside.Sink as sink
use Rattle.tm_base.specs.declared.outside.Source as source
use Rattle.tm_driver.specs.Turns.{ReadsInTurns}
use Rattle.tm_driver.specs.declared.ending.Ending.{Ending}
use Rattle.tm_driver.specs.declared.ending.Ending.TheVariants.{Done, Bad, BadWindow, LeftOver, SourceFault, PastLimit}

-- a source: the octets that it has given and has left, and the reads that it was asked for, where it
-- says which; whether it reported the end, and its count of faults
pub record SourceState : Type 0 where
  pub given : Option (List ℕ)
  pub left : Option (List ℕ)
  pub asked : Option (List Read)
  pub ended : Bool
  pub faults : ℕ

abbrev pub source_state : {S : Type 0} → source.Ghosts S → S → SourceState
source_state s at = record {
  given = s.given at;
  left = s.left at;
  asked = s.asked at;
  ended = s.ended at;
  faults = s.faults at;
}

-- a sink: the octets that it has taken, where it says which, and its count of faults
pub record SinkState : Type 0 where
  pub taken : Option (List ℕ)
  pub faults : ℕ

abbrev pub sink_state : Option (List ℕ) → ℕ → SinkState
sink_state taken faults = record { taken = taken; faults = faults }

-- ---- over a call

-- where a source stood before a call, where it stands after, and that its count of faults can't
-- rise any more
pub record SourceCall : Type 1 where
  pub before : SourceState
  pub now : SourceState
  pub is_last : Type 0

-- by what a source says of itself
abbrev pub source_call : {S : Type 0} → source.Ghosts S → (before now : S) → SourceCall
source_call s before now = record {
  before = source_state s before;
  now = source_state s now;
  is_last = s.is_last now;
}

-- and of a sink
pub record SinkCall : Type 1 where
  pub before : SinkState
  pub now : SinkState
  pub is_last : Type 0

abbrev pub sink_call : {O : Type 0} → sink.Ghosts O → (before now : O) → SinkCall
sink_call o before now = record {
  before = sink_state (o.taken before) (o.faults before);
  now = sink_state (o.taken now) (o.faults now);
  is_last = o.is_last now;
}

-- a sink that stays as it was
abbrev pub unused : SinkState → SinkCall
unused sink = record { before = sink; now = sink; is_last = ⊥ }

-- ---- what they went through

-- a source by which a command read that ended so, up to the limit and one octet more
pub record SourceCourse (ending : Ending) (limit : ℕ) (source : SourceCall) : Type 0 where
  pub turns : ReadsInTurns limit source.before.asked source.now.asked
  -- it reported its end, and where it says which octets it has none is left
  pub ended : (ending ≡ Done) ⊎ (ending ≡ Bad) ⊎ (ending ≡ LeftOver)
      → (source.now.ended ≡ true) × IsAtEnd source.now.left
  -- it did not report its end in this call
  pub unended : (ending ≡ SourceFault) ⊎ (ending ≡ PastLimit) ⊎ (ending ≡ BadWindow)
      → source.now.ended ≡ source.before.ended
  pub fault : ending ≡ SourceFault → Rose source.before.faults source.now.faults source.is_last
  pub later : source.before.faults ≤ source.now.faults
  pub same : (ending ≡ SourceFault → ⊥) → source.now.faults ≡ source.before.faults

-- one sink failed, or none did
abbrev pub SinkCourse : (failed : Bool) → SinkCall → Type 0
SinkCourse true sink = Rose sink.before.faults sink.now.faults sink.is_last
    × (sink.before.faults ≤ sink.now.faults)
SinkCourse false sink = sink.now.faults ≡ sink.before.faults

-- the same of two sinks, of which just one failed, or none did
abbrev pub SinksCourse : (failed : Bool) → (out notes : SinkCall) → Type 0
SinksCourse true out notes = (SinkCourse true out × SinkCourse false notes)
    ⊎ (SinkCourse true notes × SinkCourse false out)
SinksCourse false out notes = SinkCourse false out × SinkCourse false notes

-- A sink failed, and nothing went on: the output did, the end of the input was not reported yet and
-- the notes are as they were; or the notes did, and all was read and sent.
abbrev pub StopsAtSink : SourceCall → (out notes : SinkCall) → Type 0
StopsAtSink source out notes =
    (SinkCourse true out × (source.now.ended ≡ source.before.ended) × (notes.now ≡ notes.before))
    ⊎ (SinkCourse true notes × (source.now.ended ≡ true) × (out.now.faults ≡ out.before.faults))
