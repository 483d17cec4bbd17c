use Rattle.std.specs.Io.KnownBytes.{IsAtEnd}
use Rattle.std.specs.Option.{IsSome}
use Rattle.std.proofs.Common.{◌⊎◌, inl, inr, ◌≡◌, ◌≤◌, false, ℕ, List, map, string_bytes, Some, None, refl, sym, ◌∙◌, subst}
use Rattle.tm_config.specs.Configuration.{Configuration, configuration_of}
use Rattle.tm_driver.specs.Courses.{sink_call, source_call}
use Rattle.tm_driver.specs.Meaning.{Ends}
use Rattle.tm_driver.specs.declared.ending.Ending.TheVariants.{LeftOver, SourceFault, SinkFault}
use Rattle.tm_words.specs.declared.job.Job.{Job}
use Rattle.tm_cli.specs.Commands.{Command, command_of, has_notes, meaning_of, reads}
use Rattle.tm_cli.specs.Commands.Command.{Decode, Check}
use Rattle.tm_cli.specs.Refusal.{AreParsedAs}
use Rattle.tm_cli.specs.Run.{Answers, Call, HasNoFault, taken_in}
use Rattle.tm_cli.specs.declared.refusal.Refusal.{Refusal}
use Rattle.tm_cli.proofs.Answering.{of-check, of-encode, left-reads, source-reads, status-small, never-two_or_five, without-fault, sink-rose, whole-input_known}
use Rattle.tm_cli.proofs.top.run.Goals as goal

-- words ask for one job
same-job : (words : List (List ℕ)) (a b : Job) → AreParsedAs words a → AreParsedAs words b → a ≡ b
same-job words a b p q = let e : Some a ≡ Some b = sym p.read ∙ q.read in cc e

pub returns-in-Ok-clause-answered : goal.returns-in-Ok-clause-answered
returns-in-Ok-clause-answered g c = λ job asked _.
    let config = c.in-Command.config in
    let read = c.in-Command.ensures.command c.in-Command.job config refl in
    let same : c.in-Command.job ≡ job = same-job (map string_bytes c.args.words.now) c.in-Command.job job read.0 asked
    in
    let command = command_of c.in-Command.job in
    let h = c.in-Ok.ensures.answered in
    let ending = c.in-Ok.ending in
    let call : Call = record {
      source = source_call g.S.Source c.args.source.now c.dispatch.new.source;
      out = sink_call g.O.Sink c.args.out.now c.dispatch.new.out;
      notes = sink_call g.N.Sink c.args.notes.now c.dispatch.new.notes;
    } in
    let all = taken_in call in
    let is = c.status.ensures in
    let law = c.link_law.ensures in
    let decodes : command ≡ Decode → Ends ending (meaning_of Decode config) config.limit h.0 all =
    λ asks. subst (λ (k : Command). Ends ending (meaning_of k config) config.limit h.0 all) asks h.1.ends in
    let checks : command ≡ Check → Ends ending (meaning_of Check config) config.limit h.0 all =
    λ asks. subst (λ (k : Command). Ends ending (meaning_of k config) config.limit h.0 all) asks h.1.ends in
    let no_sink : HasNoFault call → ending ≡ SinkFault → ⊥ = λ none failed.
    elim (sink-rose ending call.out call.notes h.1.sinks failed) [ inl p ↦ none.out p.0 | inr p ↦ none.notes p.0 ] in
    let no_source : HasNoFault call → ending ≡ SourceFault → ⊥ = λ none failed.
    none.source ((h.1.course (source-reads ending command config h.0 all h.1.ends failed)).fault failed) in
    let at_end : ending ≡ LeftOver → IsAtEnd call.source.now.left = λ over.
    ((h.1.course (left-reads ending command config h.0 all h.1.ends over)).ended (inr (inr over))).1 in
    let answer : Answers c.status.result command config call = record {
      octets = h.0;
      gave = h.1.gave;
      at_most = h.1.at_most;
      ending = ending;
      is = is;
      ends = h.1.ends;
      source = h.1.course;
      sinks = h.1.sinks;
      stops = λ asks failed. c.in-Ok.ensures.stops (of-encode c.in-Command.job asks) failed;
      by_window = λ asks bad. c.in-Ok.ensures.not_bad (of-check c.in-Command.job asks) bad;
      complete =
          λ none. subst (λ (s : ℕ). (s ≡ 0) ⊎ (s ≡ 1) ⊎ (s ≡ 6) ⊎ (s ≡ 7)) (sym is)
          (without-fault ending (no_source none) (no_sink none));
      whole_input = λ input said within whole none. subst (λ (s : ℕ). (s ≡ 0) ⊎ (s ≡ 1)) (sym is)
          (whole-input_known ending (meaning_of command config) config.limit h.0 input
          call.source.now.left all h.1.ends (sym said ∙ h.1.gave.consumed) at_end within whole (no_source none)
          (no_sink none));
      clean = λ asks. law.clean ending c.status.result config h.0 all read.2 is (decodes asks);
      disturbed = λ asks. law.disturbed ending c.status.result config h.0 all read.2 is (decodes asks);
      complemented_input =
          λ asks. law.complemented_input ending c.status.result config h.0 all read.2 is (decodes asks);
      complemented_symbols =
          λ asks. law.complemented_symbols ending c.status.result config h.0 all read.2 is (decodes asks);
      found = λ asks. law.found ending c.status.result config h.0 all read.2 is (decodes asks);
      shown =
          λ asks. c.certificate_law.ensures.shown ending c.status.result config h.0 all.out all.out_now all.notes
          all.notes_now is (checks asks);
      passes =
          λ asks. c.certificate_law.ensures.passes ending c.status.result config h.0 all.out all.out_now all.notes
          all.notes_now read.2 is (checks asks);
    } in
    subst (λ (j : Job). Answers c.status.result (command_of j) (configuration_of j.raw) call) same
    (subst (λ (x : Configuration). Answers c.status.result command x call) (sym read.1) answer)

pub returns-in-Ok-clause-refused : goal.returns-in-Ok-clause-refused
returns-in-Ok-clause-refused g c = λ some.
    let read = c.in-Command.ensures.command c.in-Command.job c.in-Command.config refl in
    let none : IsSome {T = Refusal} None = subst (IsSome {T = Refusal}) read.0.accepted some in
    cc none

pub returns-in-Ok-clause-refusal : goal.returns-in-Ok-clause-refusal
returns-in-Ok-clause-refusal g c = λ two. absurd (never-two_or_five c.in-Ok.ending (inl (sym c.status.ensures ∙ two)))

pub returns-in-Ok-clause-unread : goal.returns-in-Ok-clause-unread
returns-in-Ok-clause-unread g c =
    λ which. absurd (never-two_or_five c.in-Ok.ending
    (elim which [ inl two ↦ inl (sym c.status.ensures ∙ two) | inr five ↦ inr (sym c.status.ensures ∙ five) ]))

pub returns-in-Ok-clause-memory : goal.returns-in-Ok-clause-memory
returns-in-Ok-clause-memory g c = λ five. absurd (never-two_or_five c.in-Ok.ending (inr (sym c.status.ensures ∙ five)))

pub returns-in-Ok-clause-statuses : goal.returns-in-Ok-clause-statuses
returns-in-Ok-clause-statuses g c = subst (λ (s : ℕ). s ≤ 7) (sym c.status.ensures) (status-small c.in-Ok.ending)

pub returns-in-Ok-clause-only_words : goal.returns-in-Ok-clause-only_words
returns-in-Ok-clause-only_words g c = λ job asked none.
    let read = c.in-Command.ensures.command c.in-Command.job c.in-Command.config refl in
    let same : job ≡ c.in-Command.job = same-job (map string_bytes c.args.words.now) job c.in-Command.job asked read.0
    in
    c.in-Ok.ensures.unread (subst (λ (j : Job). reads (command_of j) ≡ false) same none)

pub returns-in-Ok-clause-only_output : goal.returns-in-Ok-clause-only_output
returns-in-Ok-clause-only_output g c = λ job asked none.
    let read = c.in-Command.ensures.command c.in-Command.job c.in-Command.config refl in
    let same : job ≡ c.in-Command.job = same-job (map string_bytes c.args.words.now) job c.in-Command.job asked read.0
    in
    c.in-Ok.ensures.unnoted (subst (λ (j : Job). has_notes (command_of j) ≡ false) same none)
