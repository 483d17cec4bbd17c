use Rattle.std.proofs.Common.{◌∙◌, rules, sym, ap, subst, arith}
use Rattle.tm_config.specs.Accepted.{IsAccepted}
use Rattle.tm_config.specs.Configuration.{Configuration}
use Rattle.tm_driver.specs.Meaning.{Ends, taken_by}
use Rattle.tm_driver.proofs.Answered.{answered}
use Rattle.tm_cli.specs.Decode.{decode_meaning}
use Rattle.tm_cli.specs.declared.decode_command.Decoding.{Decoding}
use Rattle.tm_cli.proofs.Received.{decodes-none}
use Rattle.tm_cli.proofs.Reports.{decode-ends}
use Rattle.tm_cli.proofs.decode_command.decode.Goals as goal

pub drive_stage-requires : goal.drive_stage-requires
drive_stage-requires g c =
    let same = c.in-Ok.ensures.config in record {
      ready = (
        search rules,
        c.in-Ok.ensures.fresh,
        c.in-Ok.ensures.by ∙ ap (λ (k : Configuration). k.workers) (sym same),
      );
      limit = (let most = c.limit.ensures.accepted.limit in omega (arith, most, c.limit.ensures.value));
      fresh = decodes-none c.in-Ok.receiver c.new.result (subst IsAccepted (sym same) c.limit.ensures.accepted)
          c.in-Ok.ensures.stands c.new.ensures;
    }

pub returns-clause-answered : goal.returns-clause-answered
returns-clause-answered g c =
    let d = c.drive_stage.ensures.staged in
    let now = c.drive_stage.new in
    let law = c.received_law.ensures in
    let same = c.in-Ok.ensures.config in
    let taken = taken_by (g.O.Sink.taken c.args.out.now) (g.O.Sink.taken now.out) (g.N.Sink.taken c.args.notes.now)
    (g.N.Sink.taken now.notes) in
    let ends = subst (λ (k : Configuration). Ends c.drive_stage.result (decode_meaning k) k.limit d.0 taken) same
    (decode-ends law.exists law.one law.due c.in-Ok.receiver.config
    (subst IsAccepted (sym same) c.limit.ensures.accepted) (λ (t : Decoding g.row.R.Denot). t.receiver)
    (λ (t : Decoding g.row.R.Denot). t.counts) c.limit.result
    (c.limit.ensures.value ∙ ap (λ (k : Configuration). k.limit) (sym same)) now.stage _ d.0 d.1 taken d.4 d.5) in (
      d.0,
      answered d.0 _ _ _ _ _ _ _ c.limit.ensures.value d.2 d.3 ends c.drive_stage.ensures.source
          c.drive_stage.ensures.sinks,
    )
