use Rattle.std.proofs.Common.{[], None, arith, refl, sym, subst}
use Rattle.tm_config.specs.Accepted.{IsAccepted}
use Rattle.tm_driver.specs.Courses.{sink_state}
use Rattle.tm_driver.specs.Meaning.{taken_by}
use Rattle.tm_driver.proofs.Answered.{answered-alone}
use Rattle.tm_driver.proofs.TwoSinks.{first-alone}
use Rattle.tm_path_commands.specs.declared.trace_command.Tracing.{Tracing}
use Rattle.tm_path_commands.proofs.TraceEndings.{trace-ends}
use Rattle.tm_path_commands.proofs.trace_command.trace.Goals as goal

pub drive_stage-requires : goal.drive_stage-requires
drive_stage-requires g c = record {
  ready = c.in-Ok.ensures.going;
  limit = (let most = c.limit.ensures.accepted.limit in omega (arith, most, c.limit.ensures.value));
  fresh = record {
    accepted = subst IsAccepted (sym c.in-Ok.ensures.config) c.limit.ensures.accepted;
    config = refl;
    handed = [];
    stands = c.in-Ok.ensures.stands;
    counted = refl;
    lines = refl;
  };
}

pub returns-clause-answered : goal.returns-clause-answered
returns-clause-answered g c =
    let d = c.drive_stage.ensures.staged in
    answered-alone d.0 _ _ _ _ _ _ c.limit.ensures.value d.2 d.3
    (λ noted. trace-ends c.handed_law.ensures (λ (t : Tracing). t.inner) (λ t. t.tally) _ _ _ c.in-Ok.ensures.config
    c.limit.ensures.value _ _ d.0 d.1 (taken_by _ _ None None) noted d.4 d.5)
    c.drive_stage.ensures.source (first-alone _ _ (sink_state None 0) c.drive_stage.ensures.sinks)
