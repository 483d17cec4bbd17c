use Rattle.std.proofs.Common.{◌∙◌, ◌++◌, ℕ, List, append_assoc, refl, subst, arith}
use Rattle.std.proofs.lemmas.List.{append-nil}
use Rattle.tm_base.proofs.Handing.{HandedOver-append}
use Rattle.tm_config.specs.Configuration.{Configuration}
use Rattle.tm_path_commands.specs.Certifying.{Certifies, CertifiesAll, certifier}
use Rattle.tm_path_commands.proofs.CertifyStage.{certifies-all, certifies-settled, ended-chosen}
use Rattle.tm_path_commands.proofs.certify_command.CertifyingStage.finish.Goals as goal

pub returns : goal.returns
returns g c =
    let took = g.W.TextTaker.took in
    let d = c.args.self.now.inner in
    let start = c.args.self.now.start in
    let ended = c.settle.new.self in
    let r = c.certify_octets in
    let e = r.ensures in
    let last = c.last in
    let ready = c.certify_ready in
    let gave = ready.ensures.gave in
    record {
      texts = e.gave.texts ++ gave.gave.texts;
      handed =
          HandedOver-append took c.args.texts.now r.new.texts ready.new.texts e.gave.texts gave.gave.texts
          e.gave.handed gave.gave.handed;
      finished = λ new given done few stood.
          let settled = certifies-settled d ended start given done c.settle.ensures.config c.settle.ensures.stays
          stood.certifies (c.settle.ensures.stands given stood.certifies.blocks stood.certifies.stands).0 in
          let s = subst (λ (o : List ℕ). Certifies (certifier r.new.inner r.new.start) o (done ++ e.gave.texts))
          (append-nil given) (e.gave.stands (certifier ended start) given done (omega (arith, few)) settled) in
          let choice = ended-chosen r.new.inner given s.blocks s.stands (e.ended ∙ c.settle.ensures.ended) in
          let all = certifies-all took r.new.inner last.new.self r.new.start ready.new.start given
          (done ++ e.gave.texts) last.result.leftover r.new.texts ready.new.texts few last.ensures.config
          last.ensures.phase.0 choice s (last.ensures.ends given s.blocks s.stands choice).0
          (last.ensures.read given s.blocks s.stands) gave in (
            refl,
            subst (CertifiesAll new.inner.config given) (append_assoc done e.gave.texts gave.gave.texts)
                (subst (λ (k : Configuration). CertifiesAll k given ((done ++ e.gave.texts) ++ gave.gave.texts))
                (e.config ∙ c.settle.ensures.config ∙ stood.config) all),
          );
    }
