-- What the top call answers and writes.
use Rattle.std.specs.Prelude.{◌≡◌, ◌⊎◌, ℕ, ◌+◌, ◌≤◌, true, false, List, length, Some}
use Rattle.clap.specs.Words.{Text}
use Rattle.tm_base.specs.Outside.{Rose}
use Rattle.tm_base.specs.Written.{Gave, Wrote, WrotePrefix}
use Rattle.tm_config.specs.Configuration.{Configuration}
use Rattle.tm_driver.specs.Courses.{SourceCall, SinkCall, SourceCourse, SinkCourse, SinksCourse, StopsAtSink}
use Rattle.tm_driver.specs.Meaning.{Ends, Taken, taken_by}
use Rattle.tm_driver.specs.Statuses.{is_sink_fault, status_of}
use Rattle.tm_driver.specs.declared.ending.Ending.{Ending}
use Rattle.tm_driver.specs.declared.ending.Ending.TheVariants.{Bad, SinkFault}
use Rattle.tm_path_commands.specs.Shown.{ShowsLeast, PassesCertified}
use Rattle.tm_cli.specs.Commands.{Command, meaning_of, reads}
use Rattle.tm_cli.specs.Commands.Command.{Encode, Decode, Check}
use Rattle.tm_cli.specs.Lines.{refusal_text}
use Rattle.tm_cli.specs.Link.{KeepsCleanLink, KeepsDisturbedLink, KeepsComplementedInput, KeepsComplementedSymbols, KeepsFound}
use Rattle.tm_cli.specs.Refusal.{reason_of, refusal_of}
use Rattle.tm_cli.specs.declared.refusal.Refusal.{Refusal}

-- the source, the output and the notes over a call
pub record Call : Type 1 where
  pub source : SourceCall
  pub out : SinkCall
  pub notes : SinkCall

-- what its output and its notes have taken
abbrev pub taken_in : Call → Taken
taken_in call =
    taken_by call.out.before.taken call.out.now.taken call.notes.before.taken call.notes.now.taken

-- no count of faults rose
pub record HasNoFault (call : Call) : Type 0 where
  pub source : Rose call.source.before.faults call.source.now.faults call.source.is_last → ⊥
  pub out : Rose call.out.before.faults call.out.now.faults call.out.is_last → ⊥
  pub notes : Rose call.notes.before.faults call.notes.now.faults call.notes.is_last → ⊥

-- at a fault of a sink `encode` stops
abbrev pub StopsEncoding : Call → Type 0
StopsEncoding call = StopsAtSink call.source call.out call.notes

-- What a command did in a call by which words asked for it, and the status by that. The source gave
-- octets, at most one past the limit; some commands read none.
pub record Answers (status : ℕ) (command : Command) (c : Configuration) (call : Call) : Type 0 where
  pub octets : List ℕ
  pub gave : Gave call.source.before.given call.source.now.given call.source.before.left
      call.source.now.left octets
  pub at_most : length octets ≤ c.limit + 1
  -- how it ended, what was written then, and what the source and the sinks went through
  pub ending : Ending
  pub is : status ≡ status_of ending
  pub ends : Ends ending (meaning_of command c) c.limit octets (taken_in call)
  pub source : reads command ≡ true → SourceCourse ending c.limit call.source
  pub sinks : SinksCourse (is_sink_fault ending) call.out call.notes
  pub stops : command ≡ Encode → ending ≡ SinkFault → StopsEncoding call
  -- status 1 of `check` says of a window alone that it fails, and so how little was read after it
  pub by_window : command ≡ Check → ending ≡ Bad → ⊥
  -- without a fault; and where the source says which its input is, which is whole and within the
  -- limit
  pub complete : HasNoFault call → (status ≡ 0) ⊎ (status ≡ 1) ⊎ (status ≡ 6) ⊎ (status ≡ 7)
  pub whole_input : (input : List ℕ) → call.source.before.left ≡ Some input → length input ≤ c.limit
      → ((meaning_of command c).is_partial input → ⊥)
      → HasNoFault call → (status ≡ 0) ⊎ (status ≡ 1)
  -- where `decode` read its whole input, sent frames come back
  pub clean : command ≡ Decode → (status ≡ 0) ⊎ (status ≡ 1)
      → KeepsCleanLink status c octets (taken_in call)
  pub disturbed : command ≡ Decode → (status ≡ 0) ⊎ (status ≡ 1)
      → KeepsDisturbedLink status c octets (taken_in call)
  -- in the other polarity too
  pub complemented_input : command ≡ Decode → (status ≡ 0) ⊎ (status ≡ 1)
      → KeepsComplementedInput c octets (taken_in call)
  pub complemented_symbols : command ≡ Decode → (status ≡ 0) ⊎ (status ≡ 1)
      → KeepsComplementedSymbols status c octets (taken_in call)
  -- and where codeblocks are looked for inside others, each that is correctable is found
  pub found : command ≡ Decode → (status ≡ 0) ⊎ (status ≡ 1)
      → KeepsFound c octets (taken_in call)
  -- where `check` answers 0, the paths of the certificate cost the least; what `certify` writes
  -- passes
  pub shown : command ≡ Check → status ≡ 0
      → ShowsLeast c octets call.out.before.taken call.out.now.taken
  pub passes : command ≡ Check
      → PassesCertified status c octets call.notes.before.taken call.notes.now.taken

-- The words are refused: the notes took the line with the first reason and reported no fault, or
-- they failed and took a prefix of it.
pub record IsRefused (words : List Text) (notes : SinkCall) : Type 0 where
  pub why : Refusal
  pub is : refusal_of words ≡ Some why
  pub line : (SinkCourse false notes
      × Wrote notes.before.taken notes.now.taken (refusal_text (reason_of why)))
      ⊎ (SinkCourse true notes
      × WrotePrefix notes.before.taken notes.now.taken (refusal_text (reason_of why)))
