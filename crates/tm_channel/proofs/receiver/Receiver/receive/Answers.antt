use Rattle.std.proofs.Common.{◌≡◌, ◌++◌, ◌∙◌, true, false, length, refl, sym, ap, subst}
use Rattle.tm_base.specs.Handed.{items_of, on_handed}
use Rattle.tm_config.specs.Configuration.{Configuration}
use Rattle.tm_config.specs.Accepted.{IsAccepted}
use Rattle.tm_inner.specs.InnerWindows.{AreTold}
use Rattle.tm_inner.specs.Phase.{IsChosenSoFar}
use Rattle.tm_inner.specs.Receiving.{Hands}
use Rattle.tm_channel.specs.Calls.{Tells}
use Rattle.tm_channel.specs.Handing.{AreReceivedDue}
use Rattle.tm_channel.specs.Most.{AreFew}
use Rattle.tm_channel.specs.OctetReceiving.{OctetReceiving, Stages}
use Rattle.tm_channel.proofs.FewItems.{stages-few}
use Rattle.tm_channel.proofs.GivenOctets.{received-due}
use Rattle.tm_channel.proofs.receiver.Receiver.receive.Goals as goal

pub returns-clause-tells : goal.returns-clause-tells
returns-clause-tells g c =
    let s = c.self.inside in
    let octets = c.args.octets.now in
    let before : Stages = record { inner = s.inner; bits = s.stream } in
    let stages : Stages = record { inner = c.take.new.inner; bits = c.take.new.stream } in
    let now : OctetReceiving = record {
      config = s.config;
      has_stopped = s.has_stopped;
      stages = stages;
      by = c.workers_by-self-inside.result;
    } in
    let going : s.has_stopped ≡ false = c.if-self.false in
    let p = c.take.ensures.handed in
    let of = c.take.ensures.inner ∙ c.self.invariant.0 in
    subst (λ (r : OctetReceiving). Tells (on_handed g.T.ItemWatch.took_phase g.T.ItemWatch.took) r now c.args.items.now
    c.take.new.taker octets true) c.self.view_is (record {
      stopped = (λ none. absurd cc, λ stopped. absurd (let both = sym going ∙ stopped in cc));
      unchanged = λ none. absurd cc;
      going = λ _. going;
      config = refl;
      handed = λ _. (
        p.more,
        p.handed,
        λ given done few stood.
            let there = (p.stands given done few stood).0 in (
              there,
              subst (λ (k : Configuration). AreReceivedDue k (given ++ octets) (done ++ p.more)) of
                  (received-due stages (given ++ octets) (done ++ p.more) there),
            ),
        λ given done few stood. subst (λ (k : Configuration). AreFew k (length octets) (items_of p.more))
            c.self.invariant.0
            (stages-few before stages given octets done p.more
            (subst IsAccepted (sym c.self.invariant.0) c.self.invariant.2) c.take.ensures.inner stood
            (p.stands given done few stood)),
      );
      chosen =
          λ given done few stood _. subst
          (λ (k : Configuration). IsChosenSoFar k (given ++ octets) c.take.new.inner.chosen) of
          (p.stands given done few stood).0.so_far;
    })

pub returns-clause-watched : goal.returns-clause-watched
returns-clause-watched g c = λ going _.
    subst (λ (r : OctetReceiving). r.stages.inner.has_ended ≡ false → Hands g.W.WindowWatch.took AreTold
    r.stages.inner c.take.new.inner c.args.watch.now c.take.new.watch c.args.octets.now) c.self.view_is
    c.take.ensures.watched going

pub take-requires-clause-accepted : goal.take-requires-clause-accepted
take-requires-clause-accepted g c = subst IsAccepted (sym c.self.invariant.0) c.self.invariant.2

-- the configuration that is kept
kept_config : (before now : OctetReceiving) → before ≡ now → before.stages.inner.config ≡ before.config
    → IsAccepted before.config → (now.stages.inner.config ≡ now.config) × IsAccepted now.config
kept_config before now is same accepted =
    subst (λ (r : OctetReceiving). (r.stages.inner.config ≡ r.config) × IsAccepted r.config) is (same, accepted)

pub returns-then-self-clause-of : goal.returns-then-self-clause-of
returns-then-self-clause-of g c =
    let k = kept_config _ _ c.self.view_is c.self.invariant.0 c.self.invariant.2 in (k.0, k.0, k.1)

pub returns-clause-of : goal.returns-clause-of
returns-clause-of g c =
    let k = kept_config _ _ c.self.view_is c.self.invariant.0 c.self.invariant.2 in (
      k.0,
      c.take.ensures.inner ∙ c.self.invariant.0 ∙ ap (λ (r : OctetReceiving). r.config) c.self.view_is,
      k.1,
    )
