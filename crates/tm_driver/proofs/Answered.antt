-- What a command answered.
use Rattle.std.proofs.Common.{◌≡◌, ℕ, ◌+◌, ◌≤◌, Bool, true, List, length, Option, subst}
use Rattle.tm_base.specs.Written.{Gave}
use Rattle.tm_driver.specs.Answered.{Answered, AnsweredAlone, AnsweredWith}
use Rattle.tm_driver.specs.Courses.{SinkCall, SinkState, SinkCourse, SinksCourse, SourceCall, SourceCourse, unused}
use Rattle.tm_driver.specs.Meaning.{Ends, Meaning, taken_by}
use Rattle.tm_driver.specs.Statuses.{is_sink_fault}
use Rattle.tm_driver.specs.declared.ending.Ending.{Ending}
use Rattle.tm_driver.proofs.TwoSinks.{alone, first-alone}

-- a command that reads, from what its driver answers
pub answered : (octets : List ℕ) (ending : Ending) (meaning : Meaning) (limit within : ℕ) (source : SourceCall)
    (out notes : SinkCall)
    → within ≡ limit → Gave source.before.given source.now.given source.before.left source.now.left octets
    → length octets ≤ within + 1
    → Ends ending meaning limit octets (taken_by out.before.taken out.now.taken notes.before.taken notes.now.taken)
    → SourceCourse ending within source → SinksCourse (is_sink_fault ending) out notes
    → AnsweredWith octets true ending meaning limit source out notes
answered octets ending meaning limit within source out notes is gave at_most ends course sinks = record {
  gave = gave;
  at_most = subst (λ (n : ℕ). length octets ≤ n + 1) is at_most;
  ends = ends;
  course = λ reads. subst (λ (n : ℕ). SourceCourse ending n source) is course;
  sinks = sinks;
}

-- one that has no notes
pub answered-alone : (octets : List ℕ) (ending : Ending) (meaning : Meaning) (limit within : ℕ) (source : SourceCall)
    (out : SinkCall)
    → within ≡ limit → Gave source.before.given source.now.given source.before.left source.now.left octets
    → length octets ≤ within + 1
    → ((noted : Option (List ℕ)) → Ends ending meaning limit octets
    (taken_by out.before.taken out.now.taken noted noted))
    → SourceCourse ending within source → SinkCourse (is_sink_fault ending) out
    → AnsweredAlone true ending meaning limit source out
answered-alone octets ending meaning limit within source out is gave at_most ends course sink = (
  octets,
  λ notes. answered octets ending meaning limit within source out (unused notes) is gave at_most
      (ends notes.taken) course
      (alone (is_sink_fault ending) out notes ⊥ sink),
)

-- beside any notes
pub answered-beside : (reads : Bool) (ending : Ending) (meaning : Meaning) (limit : ℕ) (source : SourceCall)
    (out : SinkCall)
    (notes : SinkState) (notes_last : Type 0) → AnsweredAlone reads ending meaning limit source out
    → Answered reads ending meaning limit source out (record { before = notes; now = notes; is_last = notes_last })
answered-beside reads ending meaning limit source out notes notes_last by_itself =
    let was = by_itself.1 notes in (
      by_itself.0,
      record {
        gave = was.gave;
        at_most = was.at_most;
        ends = was.ends;
        course = was.course;
        sinks =
            alone (is_sink_fault ending) out notes notes_last
            (first-alone (is_sink_fault ending) out notes was.sinks);
      },
    )
