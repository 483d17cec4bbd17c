use Rattle.std.proofs.Common.{◌≡◌, ap, rules}
use Rattle.tm_driver.proofs.Answered.{answered}
use Rattle.tm_records.specs.Batch.{Batch, opened}
use Rattle.tm_records.specs.Erased.{coding_of}
use Rattle.tm_records.specs.Erasing.{HasSpace}
use Rattle.tm_records.proofs.Erasing.{erased-ends, holds-none}
use Rattle.tm_records.proofs.erased_command.erased.Goals as goal

pub drive_stage-requires-clause-fresh : goal.drive_stage-requires-clause-fresh
drive_stage-requires-clause-fresh g c =
    let config = c.args.config.now in
    let new : c.in-Ok.records ≡ opened (coding_of config) config.workers = search rules in
    let space : HasSpace c.in-Ok.records = search rules in
    (space, holds-none c.in-Ok.records (ap (λ (b : Batch). b.octets) new))

pub returns-clause-answered : goal.returns-clause-answered
returns-clause-answered g c =
    let d = c.drive_stage.ensures.staged in
    let config = c.args.config.now in
    let new : c.in-Ok.records ≡ opened (coding_of config) config.workers = search rules in (
      d.0,
      answered d.0 _ _ _ _ _ _ _ c.limit.ensures.value d.2 d.3
          (erased-ends config _ (ap (λ (b : Batch). b.coding) new) _ c.limit.ensures.value c.drive_stage.new.stage _
          d.0 d.1 _ d.4 d.5)
          c.drive_stage.ensures.source c.drive_stage.ensures.sinks,
    )
