-- What a command answers.
use Rattle.std.specs.Prelude.{◌≡◌, ℕ, ◌+◌, ◌≤◌, Bool, true, List, length}
use Rattle.tm_base.specs.Written.{Gave}
use Rattle.tm_driver.specs.Courses.{SinkCall, SinkState, SinksCourse, SourceCall, SourceCourse, unused}
use Rattle.tm_driver.specs.Meaning.{Ends, Meaning, taken_by}
use Rattle.tm_driver.specs.Statuses.{is_sink_fault}
use Rattle.tm_driver.specs.declared.ending.Ending.{Ending}

-- What a command did in a call that ended so, with the octets that the source gave. These are at
-- most one more than the limit, and none where the command does not read.
pub record AnsweredWith (octets : List ℕ) (reads : Bool) (ending : Ending) (meaning : Meaning)
    (limit : ℕ) (source : SourceCall) (out notes : SinkCall) : Type 0 where
  pub gave : Gave source.before.given source.now.given source.before.left source.now.left octets
  pub at_most : length octets ≤ limit + 1
  -- what was written then, and what the source and the sinks went through
  pub ends : Ends ending meaning limit octets
      (taken_by out.before.taken out.now.taken notes.before.taken notes.now.taken)
  pub course : reads ≡ true → SourceCourse ending limit source
  pub sinks : SinksCourse (is_sink_fault ending) out notes

-- what it did with some octets
abbrev pub Answered : (reads : Bool) → Ending → Meaning → (limit : ℕ) → SourceCall
    → (out notes : SinkCall) → Type 0
Answered reads ending meaning limit source out notes =
    (octets : List ℕ) × AnsweredWith octets reads ending meaning limit source out notes

-- the same of a command that has no notes: whatever a sink for them took, it stays as it was
abbrev pub AnsweredAlone : (reads : Bool) → Ending → Meaning → (limit : ℕ) → SourceCall
    → (out : SinkCall) → Type 0
AnsweredAlone reads ending meaning limit source out = (octets : List ℕ) × ((notes : SinkState)
    → AnsweredWith octets reads ending meaning limit source out (unused notes))
