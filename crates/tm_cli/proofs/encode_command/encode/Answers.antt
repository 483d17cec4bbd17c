use Rattle.std.proofs.Common.{subst, sym}
use Rattle.tm_config.specs.Accepted.{IsAccepted}
use Rattle.tm_driver.specs.Courses.{source_call}
use Rattle.tm_driver.proofs.Answered.{answered}
use Rattle.tm_cli.proofs.Encoded.{encode-ends, encodes-none, stops-at}
use Rattle.tm_cli.proofs.encode_command.encode.Goals as goal

pub drive_stage-requires-clause-fresh : goal.drive_stage-requires-clause-fresh
drive_stage-requires-clause-fresh g c = encodes-none _ c.new.ensures.stands

pub drive_stage-requires-clause-ready : goal.drive_stage-requires-clause-ready
drive_stage-requires-clause-ready g c = subst IsAccepted (sym c.new.ensures.config) c.limit.ensures.accepted

pub returns-clause-answered : goal.returns-clause-answered
returns-clause-answered g c =
    let d = c.drive_stage.ensures.staged in (
      d.0,
      answered d.0 _ _ _ _ _ _ _ c.limit.ensures.value d.2 d.3
          (encode-ends c.args.config.now c.limit.ensures.accepted _ c.new.ensures.config _ c.limit.ensures.value _ _
          d.0 d.1 _ d.4 d.5) c.drive_stage.ensures.source c.drive_stage.ensures.sinks,
    )

pub returns-clause-stops : goal.returns-clause-stops
returns-clause-stops g c is =
    stops-at _ _ (source_call g.S.Source c.args.source.now c.drive_stage.new.source) _ _ (c.drive_stage.ensures.halts is)
