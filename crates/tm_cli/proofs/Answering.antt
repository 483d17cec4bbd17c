-- What follows from how a command ended.
use Rattle.std.proofs.Common.{◌≡◌, ◌≢◌, ◌⊎◌, inl, inr, ℕ, ◌≤◌, List, [], ◌++◌, length, Option, Some, None, Result, Ok, Err, true, false, refl, sym, ◌∙◌, ap, subst, arith, length-append}
use Rattle.std.proofs.lemmas.List.{append-nil}
use Rattle.std.proofs.lemmas.Result.{IfOk-weaker}
use Rattle.std.specs.Io.KnownBytes.{prepend_known, IsAtEnd}
use Rattle.std.specs.Result.{IfOk}
use Rattle.tm_base.specs.Written.{Gave}
use Rattle.tm_base.proofs.Known.{append_known-nil, prepend_known-nil}
use Rattle.std.specs.Prelude.{if◌then◌else◌, is_none}
use Rattle.tm_config.specs.Configuration.{Configuration, is_uncoded}
use Rattle.tm_config.specs.declared.error.ConfigError.TheVariants.{Code, Inner}
use Rattle.tm_config.specs.declared.values.OuterCode.{OuterCode}
use Rattle.tm_config.specs.declared.values.OuterCode.TheVariants.{Rs16, Rs8, Uncoded}
use Rattle.tm_conv.specs.declared.rates.Rate.{Rate}
use Rattle.tm_driver.specs.Answered.{Answered, AnsweredAlone}
use Rattle.tm_driver.specs.Courses.{SinkCall, SinkState, SinkCourse, SinksCourse, SourceCall, SourceState}
use Rattle.tm_driver.specs.Meaning.{Meaning, Ends, Output, Taken, taken_by}
use Rattle.tm_driver.specs.Statuses.{is_sink_fault, status_of}
use Rattle.tm_driver.specs.declared.ending.Ending.{Ending}
use Rattle.tm_driver.specs.declared.ending.Ending.TheVariants.{Done, Bad, BadWindow, LeftOver, SourceFault, SinkFault, PastLimit}
use Rattle.tm_driver.proofs.Answered.{answered-beside}
use Rattle.tm_driver.proofs.TwoSinks.{alone}
use Rattle.tm_words.specs.declared.commands.JobKind.{JobKind}
use Rattle.tm_words.specs.declared.commands.JobKind.TheVariants as kind
use Rattle.tm_words.specs.declared.job.Job.{Job}
use Rattle.tm_cli.specs.Commands.{Command, command_by, command_of, meaning_of, reads}
use Rattle.tm_cli.specs.Commands.Command.{Encode, Decode, Report, Trace, Word, Soak, Erased, Certify, Check, Bits}
use Rattle.tm_cli.specs.Refusal.{refusal_of_command}
use Rattle.tm_cli.specs.declared.refusal.Refusal.{Refusal}
use Rattle.tm_cli.specs.declared.refusal.Refusal.TheVariants.{Value}

-- ---- which command a job asks for

check-kind : (k : JobKind) (job : Job) → command_by k job ≡ Check → k ≡ kind.Check
check-kind kind.Encode job is = cc is
check-kind kind.Decode job is = cc is
check-kind kind.Report job is = cc is
check-kind kind.Trace job is = cc is
check-kind kind.Word job is = cc is
check-kind kind.Soak job is = cc is
check-kind kind.Erased job is = cc is
check-kind kind.Certify job is = cc is
check-kind kind.Check job is = refl
check-kind kind.Bits job is = cc is

pub of-check : (job : Job) → command_of job ≡ Check → job.kind ≡ kind.Check
of-check job is = check-kind job.kind job is

encode-kind : (k : JobKind) (job : Job) → command_by k job ≡ Encode → k ≡ kind.Encode
encode-kind kind.Encode job is = refl
encode-kind kind.Decode job is = cc is
encode-kind kind.Report job is = cc is
encode-kind kind.Trace job is = cc is
encode-kind kind.Word job is = cc is
encode-kind kind.Soak job is = cc is
encode-kind kind.Erased job is = cc is
encode-kind kind.Certify job is = cc is
encode-kind kind.Check job is = cc is
encode-kind kind.Bits job is = cc is

pub of-encode : (job : Job) → command_of job ≡ Encode → job.kind ≡ kind.Encode
of-encode job is = encode-kind job.kind job is

-- a command that reads nothing leaves nothing over, and nothing is due for what it did not read
reads-or : (command : Command) (c : Configuration) → (reads command ≡ true)
    ⊎ (((octets : List ℕ) → (meaning_of command c).is_partial octets → ⊥)
    × ((octets : List ℕ) (output : Output) → (meaning_of command c).is_due octets output → ⊥))
reads-or Encode c = inl refl
reads-or Decode c = inl refl
reads-or Report c = inl refl
reads-or Trace c = inl refl
reads-or (Word text) c = inr (λ octets partial. partial, λ octets output due. due)
reads-or (Soak seed frames hits) c = inr (λ octets partial. partial, λ octets output due. due)
reads-or Erased c = inl refl
reads-or Certify c = inl refl
reads-or Check c = inl refl
reads-or Bits c = inl refl

pub left-reads : (e : Ending) (command : Command) (c : Configuration) (octets : List ℕ) (taken : Taken)
    → Ends e (meaning_of command c) c.limit octets taken → e ≡ LeftOver → reads command ≡ true
left-reads e command c octets taken ends is =
    let partial = (subst (λ (x : Ending). Ends x (meaning_of command c) c.limit octets taken) is ends).2 in
    elim (reads-or command c) as (λ _. reads command ≡ true)
    [ inl reading ↦ reading | inr none ↦ absurd (none.0 octets partial) ]

pub source-reads : (e : Ending) (command : Command) (c : Configuration) (octets : List ℕ) (taken : Taken)
    → Ends e (meaning_of command c) c.limit octets taken → e ≡ SourceFault → reads command ≡ true
source-reads e command c octets taken ends is =
    let early = (subst (λ (x : Ending). Ends x (meaning_of command c) c.limit octets taken) is ends).0.0 in
    elim (reads-or command c) as (λ _. reads command ≡ true)
    [ inl reading ↦ reading | inr none ↦ absurd (none.1 octets early.0 early.1) ]

-- ---- what a status is

pub status-small : (e : Ending) → status_of e ≤ 7
status-small Done = omega arith
status-small Bad = omega arith
status-small BadWindow = omega arith
status-small LeftOver = omega arith
status-small SourceFault = omega arith
status-small SinkFault = omega arith
status-small PastLimit = omega arith

-- no ending has status 2, of refused words, or 5, of no memory
pub never-two_or_five : (e : Ending) → (status_of e ≡ 2) ⊎ (status_of e ≡ 5) → ⊥
never-two_or_five Done is = omega (arith, is)
never-two_or_five Bad is = omega (arith, is)
never-two_or_five BadWindow is = omega (arith, is)
never-two_or_five LeftOver is = omega (arith, is)
never-two_or_five SourceFault is = omega (arith, is)
never-two_or_five SinkFault is = omega (arith, is)
never-two_or_five PastLimit is = omega (arith, is)

-- without a fault
pub without-fault : (e : Ending) → (e ≡ SourceFault → ⊥) → (e ≡ SinkFault → ⊥)
    → (status_of e ≡ 0) ⊎ (status_of e ≡ 1) ⊎ (status_of e ≡ 6) ⊎ (status_of e ≡ 7)
without-fault Done source sink = inl refl
without-fault Bad source sink = inr (inl refl)
without-fault BadWindow source sink = inr (inl refl)
without-fault LeftOver source sink = inr (inr (inl refl))
without-fault PastLimit source sink = inr (inr (inr refl))
without-fault SourceFault source sink = absurd (source refl)
without-fault SinkFault source sink = absurd (sink refl)

-- a fault of a sink is one of two, of which one rose
pub sink-rose : (e : Ending) (out notes : SinkCall) → SinksCourse (is_sink_fault e) out notes → e ≡ SinkFault
    → SinkCourse true out ⊎ SinkCourse true notes
sink-rose e out notes course is =
    elim (subst (λ (x : Ending). SinksCourse (is_sink_fault x) out notes) is course)
    as (λ _. SinkCourse true out ⊎ SinkCourse true notes) [ inl p ↦ inl p.0 | inr p ↦ inr p.0 ]

-- where no fault rose, an input of whole frames within the limit gives status 0 or 1
whole-input : (e : Ending) (meaning : Meaning) (limit : ℕ) (octets input rest : List ℕ) (taken : Taken)
    → Ends e meaning limit octets taken → input ≡ octets ++ rest → (e ≡ LeftOver → rest ≡ []) → length input ≤ limit
    → (meaning.is_partial input → ⊥)
    → (e ≡ SourceFault → ⊥) → (e ≡ SinkFault → ⊥) → (status_of e ≡ 0) ⊎ (status_of e ≡ 1)
whole-input Done meaning limit octets input rest taken ends is at_end within whole source sink = inl refl
whole-input Bad meaning limit octets input rest taken ends is at_end within whole source sink = inr refl
whole-input BadWindow meaning limit octets input rest taken ends is at_end within whole source sink = inr refl
whole-input LeftOver meaning limit octets input rest taken ends is at_end within whole source sink =
    absurd (whole (subst meaning.is_partial (sym (is ∙ ap (λ (l : List ℕ). octets ++ l) (at_end refl)
    ∙ append-nil octets)) ends.2))
whole-input SourceFault meaning limit octets input rest taken ends is at_end within whole source sink =
    absurd (source refl)
whole-input SinkFault meaning limit octets input rest taken ends is at_end within whole source sink = absurd (sink refl)
whole-input PastLimit meaning limit octets input rest taken ends is at_end within whole source sink =
    let long : length input ≡ length (octets ++ rest) = ap length is in
    absurd (omega (arith, long, within, ends.1, length-append octets rest))

-- where the source says which its octets are
pub whole-input_known : (e : Ending) (meaning : Meaning) (limit : ℕ) (octets input : List ℕ) (left : Option (List ℕ))
    (taken : Taken)
    → Ends e meaning limit octets taken → Some input ≡ prepend_known octets left → (e ≡ LeftOver → IsAtEnd left)
    → length input ≤ limit → (meaning.is_partial input → ⊥)
    → (e ≡ SourceFault → ⊥) → (e ≡ SinkFault → ⊥) → (status_of e ≡ 0) ⊎ (status_of e ≡ 1)
whole-input_known e meaning limit octets input None taken ends is at_end within whole source sink = cc is
whole-input_known e meaning limit octets input (Some rest) taken ends is at_end within whole source sink =
    let same : input ≡ octets ++ rest = cc is in
    whole-input e meaning limit octets input rest taken ends same at_end within whole source sink

-- ---- the command that was asked for

-- what a command answers
abbrev pub AnsweredTo : {E : Type 0} → Result Ending E → Command → Configuration → SourceCall → (out notes : SinkCall)
    → Type 0
AnsweredTo result command c source out notes =
    IfOk result (λ ending. Answered (reads command) ending (meaning_of command c) c.limit source out notes)

pub as-command : {E : Type 0} (result : Result Ending E) (asked command : Command) (c : Configuration)
    (source : SourceCall) (out notes : SinkCall) → asked ≡ command
    → AnsweredTo result command c source out notes → AnsweredTo result asked c source out notes
as-command result asked command c source out notes is h =
    subst (λ (k : Command). AnsweredTo result k c source out notes) (sym is) h

-- the same of one that left the notes as they were
pub without-notes : {E : Type 0} (result : Result Ending E) (asked command : Command) (c : Configuration)
    (source : SourceCall) (out : SinkCall) (notes : SinkState) (notes_last : Type 0)
    → asked ≡ command → IfOk result (λ ending. AnsweredAlone (reads command) ending
    (meaning_of command c) c.limit source out)
    → AnsweredTo result asked c source out (record { before = notes; now = notes; is_last = notes_last })
without-notes result asked command c source out notes notes_last is h =
    as-command result asked command c source out _ is (IfOk-weaker result _ _
    (λ ending alone. answered-beside (reads command) ending
    (meaning_of command c) c.limit source out notes notes_last alone) h)

-- and of one that left the source as it was too
gave-nothing : (given left : Option (List ℕ)) → Gave given given left left []
gave-nothing given left = record { given = sym (append_known-nil given); consumed = sym (prepend_known-nil left) }

pub without-input : {E : Type 0} (result : Result Ending E) (asked command : Command) (c : Configuration)
    (source : SourceState) (source_last : Type 0) (out : SinkCall) (notes : SinkState) (notes_last : Type 0)
    → asked ≡ command → reads command ≡ false
    → IfOk result (λ ending. (noted : Option (List ℕ)) → Ends ending (meaning_of command c) c.limit []
    (taken_by out.before.taken out.now.taken noted noted))
    → IfOk result (λ ending. SinkCourse (is_sink_fault ending) out)
    → AnsweredTo result asked c (record { before = source; now = source; is_last = source_last }) out
    (record { before = notes; now = notes; is_last = notes_last })
without-input (Ok ending) asked command c source source_last out notes notes_last is unread h went =
    as-command {E = ⊥} (Ok ending) asked command c _ out _ is (
      [],
      record {
        gave = gave-nothing source.given source.left;
        at_most = omega arith;
        ends = h notes.taken;
        course = λ reads. let clash : false ≡ true = sym unread ∙ reads in cc;
        sinks = alone (is_sink_fault ending) out notes notes_last went;
      },
    )
without-input (Err e) asked command c source source_last out notes notes_last is unread h went = tt

-- ---- what a command that is not refused has

coded-by : (code : OuterCode) (why : Refusal) → (if is_uncoded code then Some why else None) ≡ None → code ≢ Uncoded
coded-by Rs16 why none = λ is. cc
coded-by Rs8 why none = λ is. cc
coded-by Uncoded why none = absurd cc

rate-by : (rate : Option Rate) (why : Refusal) → (if is_none rate then Some why else None) ≡ None → rate ≢ None
rate-by (Some rate) why none = λ is. cc
rate-by None why none = absurd cc

pub erased-coded : (c : Configuration) (job : Job) → job.kind ≡ kind.Erased
    → refusal_of_command c (command_of job) ≡ None → c.code ≢ Uncoded
erased-coded c job is none = coded-by c.code (Value Code)
    (subst (λ (k : JobKind). refusal_of_command c (command_by k job) ≡ None) is none)

pub check-rate : (c : Configuration) (job : Job) → job.kind ≡ kind.Check
    → refusal_of_command c (command_of job) ≡ None → c.inner ≢ None
check-rate c job is none = rate-by c.inner (Value Inner)
    (subst (λ (k : JobKind). refusal_of_command c (command_by k job) ≡ None) is none)
