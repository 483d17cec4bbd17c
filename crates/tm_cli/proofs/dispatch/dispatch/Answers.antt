use Rattle.std.proofs.Common.{rules, ◌∙◌, Ok, refl, sym, ap}
use Rattle.tm_base.specs.declared.outside.NoMemory.{NoMemory}
use Rattle.tm_words.specs.declared.commands.JobKind.{JobKind}
use Rattle.tm_cli.specs.Commands.{command_by}
use Rattle.tm_cli.specs.Commands.Command.{Encode, Decode, Report, Trace, Word, Soak, Erased, Certify, Check, Bits}
use Rattle.tm_cli.proofs.Answering.{erased-coded, check-rate, as-command, without-notes, without-input}
use Rattle.tm_cli.proofs.dispatch.dispatch.Goals as goal

pub returns-in-Encode-clause-answered : goal.returns-in-Encode-clause-answered
returns-in-Encode-clause-answered g c =
    as-command {E = NoMemory} (Ok c.encode.result) _ Encode c.args.config.now _ _ _
    (ap (λ (k : JobKind). command_by k c.args.job.now) c.in-Encode.is) c.encode.ensures.answered

pub returns-in-Decode-clause-answered : goal.returns-in-Decode-clause-answered
returns-in-Decode-clause-answered g c =
    as-command c.decode.result _ Decode c.args.config.now _ _ _
    (ap (λ (k : JobKind). command_by k c.args.job.now) c.in-Decode.is) c.decode.ensures.answered

pub returns-in-Erased-clause-answered : goal.returns-in-Erased-clause-answered
returns-in-Erased-clause-answered g c =
    as-command c.erased.result _ Erased c.args.config.now _ _ _
    (ap (λ (k : JobKind). command_by k c.args.job.now) c.in-Erased.is) c.erased.ensures.answered

pub returns-in-Check-clause-answered : goal.returns-in-Check-clause-answered
returns-in-Check-clause-answered g c =
    as-command c.check.result _ Check c.args.config.now _ _ _
    (ap (λ (k : JobKind). command_by k c.args.job.now) c.in-Check.is) c.check.ensures.answered

pub returns-in-Bits-clause-answered : goal.returns-in-Bits-clause-answered
returns-in-Bits-clause-answered g c =
    as-command c.bits.result _ Bits c.args.config.now _ _ _
    (ap (λ (k : JobKind). command_by k c.args.job.now) c.in-Bits.is) c.bits.ensures.answered

pub returns-in-Report-clause-answered : goal.returns-in-Report-clause-answered
returns-in-Report-clause-answered g c =
    without-notes c.report.result _ Report c.args.config.now _ _ _ _
    (ap (λ (k : JobKind). command_by k c.args.job.now) c.in-Report.is) c.report.ensures.answered

pub returns-in-Trace-clause-answered : goal.returns-in-Trace-clause-answered
returns-in-Trace-clause-answered g c =
    without-notes c.trace.result _ Trace c.args.config.now _ _ _ _
    (ap (λ (k : JobKind). command_by k c.args.job.now) c.in-Trace.is) c.trace.ensures.answered

pub returns-in-Certify-clause-answered : goal.returns-in-Certify-clause-answered
returns-in-Certify-clause-answered g c =
    without-notes c.certify.result _ Certify c.args.config.now _ _ _ _
    (ap (λ (k : JobKind). command_by k c.args.job.now) c.in-Certify.is) c.certify.ensures.answered

pub returns-in-Word-clause-answered : goal.returns-in-Word-clause-answered
returns-in-Word-clause-answered g c =
    without-input {E = NoMemory} (Ok c.word.result) _ (Word c.as_bytes.result.now) c.args.config.now _ _ _ _ _
    (ap (λ (k : JobKind). command_by k c.args.job.now) c.in-Word.is ∙ ap Word (sym c.as_bytes.ensures)) refl
    c.word.ensures.ends c.word.ensures.sink

pub returns-in-Soak-clause-answered : goal.returns-in-Soak-clause-answered
returns-in-Soak-clause-answered g c =
    without-input c.soak.result _
    (Soak c.args.job.now.seed c.args.job.now.frames c.args.job.now.hits) c.args.config.now _ _ _ _ _
    (ap (λ (k : JobKind). command_by k c.args.job.now) c.in-Soak.is) refl c.soak.ensures.ends c.soak.ensures.sink

pub erased-requires : goal.erased-requires
erased-requires g c = (search rules, erased-coded c.args.config.now c.args.job.now c.in-Erased.is c.requires)

pub check-requires : goal.check-requires
check-requires g c = check-rate c.args.config.now c.args.job.now c.in-Check.is c.requires
