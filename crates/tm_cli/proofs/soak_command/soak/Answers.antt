use Rattle.std.proofs.Common.{sym, ◌∙◌}
use Rattle.tm_cli.specs.Generated.{generated}
use Rattle.tm_cli.specs.Lines.{report_end_text}
use Rattle.tm_cli.proofs.Reports.{is_bad, not_bad}
use Rattle.tm_cli.proofs.SoakLine.{soak-done, soak-bad, soak-fails}
use Rattle.tm_cli.proofs.Soaking.{counted-line}
use Rattle.tm_cli.proofs.soak_command.soak.Goals as goal

pub returns-in-Ok-frames_line-clause-ends : goal.returns-in-Ok-frames_line-clause-ends
returns-in-Ok-frames_line-clause-ends g c = λ noted.
    let config = c.args.config.now in
    let counts = c.count_frames.result.0 in
    let totals = c.count_frames.result.1 in
    let line = report_end_text counts.good counts.bad counts.fixed totals.bits in
    let sent = generated config c.args.seed c.args.frames c.args.hits in
    let all = c.count_frames.ensures in
    let counted = all.counted in
    soak-done config c.args.seed c.args.frames c.args.hits line _ _ noted
    (counted-line config c.args.seed c.args.frames c.args.hits totals counts counted)
    c.in-Ok-frames_line.ensures.ok
    (not_bad c.received_law.ensures.one config totals sent counted.0 all.accepted counted.1
    (sym counted.2.bad ∙ c.if-counts-eq0.true))

pub returns-in-Ok-2-clause-ends : goal.returns-in-Ok-2-clause-ends
returns-in-Ok-2-clause-ends g c = λ noted.
    let config = c.args.config.now in
    let counts = c.count_frames.result.0 in
    let totals = c.count_frames.result.1 in
    let line = report_end_text counts.good counts.bad counts.fixed totals.bits in
    let sent = generated config c.args.seed c.args.frames c.args.hits in
    let counted = c.count_frames.ensures.counted in
    soak-bad config c.args.seed c.args.frames c.args.hits line _ _ noted
    (counted-line config c.args.seed c.args.frames c.args.hits totals counts counted) c.in-Ok-2.ensures.ok
    (is_bad config totals sent counted.0 counted.1 (λ none. c.if-counts-eq0.false (counted.2.bad ∙ none)))

pub returns-clause-ends : goal.returns-clause-ends
returns-clause-ends g c = λ noted.
    let config = c.args.config.now in
    let counts = c.count_frames.result.0 in
    let totals = c.count_frames.result.1 in
    let line = report_end_text counts.good counts.bad counts.fixed totals.bits in
    soak-fails config c.args.seed c.args.frames c.args.hits line _ _ noted
    (counted-line config c.args.seed c.args.frames c.args.hits totals counts c.count_frames.ensures.counted)
    c.in-Err.ensures.err
