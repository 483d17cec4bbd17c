use Rattle.std.proofs.Common.{◌≡◌, ◌∙◌, ℕ, List, ◌++◌, true, false, refl, sym, subst, Some}
use Rattle.tm_base.specs.Handed.{items_of, on_handed}
use Rattle.tm_config.specs.Configuration.{Configuration}
use Rattle.tm_config.specs.Accepted.{IsAccepted}
use Rattle.tm_base.specs.Takers.{HandedOver}
use Rattle.tm_inner.specs.InnerWindows.{AreTold, AreWindows}
use Rattle.tm_inner.specs.Phase.{IsChosen}
use Rattle.tm_inner.specs.declared.window.Window.{Window}
use Rattle.tm_channel.specs.Calls.{TellsLast}
use Rattle.tm_channel.specs.Handing.{AreReceived}
use Rattle.tm_channel.specs.Most.{AreFew}
use Rattle.tm_channel.specs.OctetReceiving.{OctetReceiving}
use Rattle.tm_channel.proofs.receiver.Receiver.end.Goals as goal

pub returns-clause-tells : goal.returns-clause-tells
returns-clause-tells g c =
    let s = c.self.inside in
    let now : OctetReceiving = record {
      config = s.config;
      has_stopped = true;
      stages = record { inner = c.end.new.inner; bits = c.end.new.stream };
      by = c.workers_by-self-inside.result;
    } in
    let going : s.has_stopped ≡ false = c.if-self.false in
    let p = c.end.ensures.handed in
    let ok = subst IsAccepted (sym c.self.invariant.0) c.self.invariant.2 in
    subst (λ (r : OctetReceiving). TellsLast (on_handed g.T.ItemWatch.took_phase g.T.ItemWatch.took) r now
    c.args.items.now c.end.new.taker (Some c.end.result)) c.self.view_is (record {
      stopped = (λ none. absurd cc, λ stopped. absurd (let both = sym going ∙ stopped in cc));
      unchanged = λ none. absurd cc;
      stops = refl;
      config = refl;
      handed = (
        p.0,
        p.1,
        λ given done stood. subst (λ (k : Configuration). AreReceived k given (done ++ p.0) c.end.result)
            c.self.invariant.0 (p.2 given done stood).0,
        λ given done stood. subst (λ (k : Configuration). AreFew k 0 (items_of p.0)) c.self.invariant.0
            ((p.2 given done stood).1 ok),
      );
      chosen =
          λ given done stood _. subst (λ (k : Configuration). IsChosen k given c.end.new.inner.chosen)
          c.self.invariant.0 (c.end.ensures.chosen given done stood);
    })

pub returns-clause-watched : goal.returns-clause-watched
returns-clause-watched g c =
    let p = c.end.ensures.watched in
    subst (λ (r : OctetReceiving). (last : List Window)
    × HandedOver g.W.WindowWatch.took c.args.watch.now last c.end.new.watch
    × ((given : List ℕ) (done : List Window) → AreTold r.stages.inner given done
    → AreWindows r.config given (done ++ last))) c.self.view_is (
      p.0,
      p.1,
      λ given done told. subst (λ (k : Configuration). AreWindows k given (done ++ p.0)) c.self.invariant.0
          (p.2 given done told),
    )

-- the configuration that is kept
kept_config : (before now : OctetReceiving) → before ≡ now → before.stages.inner.config ≡ before.config
    → IsAccepted before.config → (now.stages.inner.config ≡ now.config) × IsAccepted now.config
kept_config before now is same accepted =
    subst (λ (r : OctetReceiving). (r.stages.inner.config ≡ r.config) × IsAccepted r.config) is (same, accepted)

pub returns-then-self-clause-of : goal.returns-then-self-clause-of
returns-then-self-clause-of g c = kept_config _ _ c.self.view_is c.self.invariant.0 c.self.invariant.2

pub returns-clause-of : goal.returns-clause-of
returns-clause-of g c = kept_config _ _ c.self.view_is c.self.invariant.0 c.self.invariant.2
