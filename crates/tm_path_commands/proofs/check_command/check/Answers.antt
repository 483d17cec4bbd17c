use Rattle.std.proofs.Common.{◌≡◌, [], refl, rules, arith}
use Rattle.tm_driver.proofs.Answered.{answered}
use Rattle.tm_path_commands.specs.Check.{ReadAt}
use Rattle.tm_path_commands.specs.declared.check_command.Checking.{Checking}
use Rattle.tm_path_commands.proofs.CheckEndings.{ReadOnce, check-ends, check-not_bad}
use Rattle.tm_path_commands.proofs.check_command.check.Goals as goal

pub drive_stage-requires : goal.drive_stage-requires
drive_stage-requires g c = record {
  ready = c.in-Ok.ensures.fresh.2;
  limit = (let most = c.limit.ensures.accepted.limit in omega (arith, most, c.limit.ensures.value));
  fresh = (
    c.in-Ok.ensures.fresh.2,
    record {
      rules = refl;
      windows = [];
      stands = c.in-Ok.ensures.stands;
      blocks = refl;
      bits = refl;
      are = refl;
    },
  );
}

pub returns-clause-answered : goal.returns-clause-answered
returns-clause-answered g c =
    let d = c.drive_stage.ensures.staged in
    let config = c.args.config.now in
    let new : Checking = record { reader = c.in-Ok.reader; tally = record { blocks = 0; bits = 0 } } in
    let once : ReadOnce = record {
      exists = c.read_law.ensures.exists;
      one = c.read_law.ensures.one;
      longer = c.read_law.ensures.longer;
    } in
    let rules_are : ReadAt (λ k. c.in-Ok.reader.rules ≡ k) config.inner config = search rules in (
      d.0,
      answered d.0 _ _ _ _ _ _ _ c.limit.ensures.value d.2 d.3
          (check-ends once config new rules_are _ c.limit.ensures.value _ _ d.0 d.1 _ d.4 d.5)
          c.drive_stage.ensures.source c.drive_stage.ensures.sinks,
    )

pub returns-clause-not_bad : goal.returns-clause-not_bad
returns-clause-not_bad g c =
    let d = c.drive_stage.ensures.staged in
    check-not_bad (record { reader = c.in-Ok.reader; tally = record { blocks = 0; bits = 0 } }) c.drive_stage.new.stage
    c.limit.result c.drive_stage.result d.0 d.1 d.4
