use Rattle.std.proofs.Common.{None, ◌∙◌, ap, arith}
use Rattle.tm_config.specs.Configuration.{Configuration}
use Rattle.tm_driver.specs.Courses.{sink_state}
use Rattle.tm_driver.specs.Meaning.{taken_by}
use Rattle.tm_driver.proofs.Answered.{answered-alone}
use Rattle.tm_driver.proofs.TwoSinks.{first-alone}
use Rattle.tm_viterbi.specs.Starts.{first_start}
use Rattle.tm_path_commands.specs.declared.certify_command.Certifying.{Certifying}
use Rattle.tm_path_commands.proofs.CertifyEndings.{certify-ends}
use Rattle.tm_path_commands.proofs.CertifyStage.{certifies-new, some-small}
use Rattle.tm_path_commands.proofs.certify_command.certify.Goals as goal

pub drive_stage-requires : goal.drive_stage-requires
drive_stage-requires g c = record {
  ready = (c.in-Ok.ensures.going, some-small c.first_start.result c.first_start.ensures.small);
  limit = (let most = c.limit.ensures.accepted.limit in omega (arith, most, c.limit.ensures.value));
  fresh =
      certifies-new c.unfollowed-found.result c.in-Ok.inner c.first_start.result c.unfollowed-found.ensures.accepted
      (ap (λ (k : Configuration). k.follow) c.unfollowed-found.ensures.value) c.in-Ok.ensures.config
      c.in-Ok.ensures.stands
      (c.first_start.ensures.value ∙ ap (λ (k : Configuration). first_start k.start) c.values.ensures.value);
}

pub returns-clause-answered : goal.returns-clause-answered
returns-clause-answered g c =
    let d = c.drive_stage.ensures.staged in
    let law = c.certified_law.ensures in
    let limit = c.limit.ensures.value ∙ ap (λ (k : Configuration). k.limit) c.unfollowed-found.ensures.value in
    answered-alone d.0 _ _ _ _ _ _ limit d.2 d.3
    (λ noted. certify-ends c.handed_law.ensures law.exists law.one law.longer (λ (t : Certifying). t.inner)
    (λ t. t.start) _ _ _ (c.in-Ok.ensures.config ∙ c.unfollowed-found.ensures.value) limit _ _ d.0 d.1
    (taken_by _ _ None None) noted d.4 d.5)
    c.drive_stage.ensures.source (first-alone _ _ (sink_state None 0) c.drive_stage.ensures.sinks)
