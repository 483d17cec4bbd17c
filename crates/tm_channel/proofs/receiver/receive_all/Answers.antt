use Rattle.std.proofs.Common.{◌++◌, ◌∙◌, ℕ, inl, inr, [], subst, refl, arith, Err, IsErrOf, IsTrue}
use Rattle.tm_base.specs.Outside.{Rose}
use Rattle.tm_base.proofs.Handing.{HandedOver-append, HandedPart-after}
use Rattle.tm_config.specs.Configuration.{Configuration}
use Rattle.tm_channel.specs.Handing.{AreReceived, AreReceivedFirst, AreReceivedPrefix}
use Rattle.tm_channel.specs.declared.receiver.RecvError.{RecvError}
use Rattle.tm_channel.specs.declared.receiver.RecvError.TheVariants.{Taker, Stopped}
use Rattle.tm_channel.proofs.receiver.receive_all.Goals as goal

pub returns-in-Ok-finish-clause-handed : goal.returns-in-Ok-finish-clause-handed
returns-in-Ok-finish-clause-handed g c =
    let fed = c.in-Ok-feed.ensures.feeds.handed in
    let last = c.in-Ok-finish.ensures.finishes.handed in
    let octets = c.args.octets.now in (
      fed.0 ++ last.0,
      HandedOver-append _ c.args.taker.now c.feed.new.taker c.finish.new.taker fed.0 last.0 fed.1 last.1,
      λ few.
          let stands = (fed.2 [] [] (omega (arith, few)) c.in-Ok.ensures.stands).0 in
          subst (λ (k : Configuration). AreReceived k octets (fed.0 ++ last.0) c.in-Ok-finish.totals)
          (c.feed.ensures.feeds.config ∙ c.in-Ok.ensures.config) (last.2 octets fed.0 stands),
    )

taker_alone : {T : Type 0} (e : RecvError) → (IsErrOf {T = T} (Err e) Stopped → ⊥) → IsErrOf {T = T} (Err e) Taker
taker_alone Taker h = refl
taker_alone Stopped h = absurd (h refl)

pub returns-in_default-feed-clause-prefix : goal.returns-in_default-feed-clause-prefix
returns-in_default-feed-clause-prefix g c = λ _.
    let fresh = c.in-Ok.ensures.fresh in
    let fed = c.in_default-feed.ensures.feeds.prefix (taker_alone c.in_default-feed.field-0
    (λ is. (let stopped = c.in_default-feed.ensures.feeds.call.stopped.0 is in absurd cc))) in
    let octets = c.args.octets.now in (
      fed.0,
      fed.1,
      λ few. inl (subst (λ (k : Configuration). AreReceivedFirst k octets fed.0) c.in-Ok.ensures.config
          (fed.2 [] [] (omega (arith, few)) c.in-Ok.ensures.stands)),
    )

pub returns-clause-prefix : goal.returns-clause-prefix
returns-clause-prefix g c = λ _.
    let fed = c.in-Ok-feed.ensures.feeds.handed in
    let none : IsTrue c.feed.new.self.has_stopped → ⊥ = λ stopped. c.in-Ok-feed.ensures.feeds.stops.0 stopped in
    let octets = c.args.octets.now in
    let last = c.in-Err.ensures.finishes.prefix (taker_alone c.in-Err.field-0
    (λ is. none (c.in-Err.ensures.finishes.call.stopped.0 is))) in (
      fed.0 ++ last.0,
      HandedPart-after _ _ c.args.taker.now c.feed.new.taker c.finish.new.taker fed.0 last.0 fed.1 last.1,
      λ few.
          let stands = (fed.2 [] [] (omega (arith, few)) c.in-Ok.ensures.stands).0 in
          inr (subst (λ (k : Configuration). AreReceivedPrefix k octets (fed.0 ++ last.0))
          (c.feed.ensures.feeds.config ∙ c.in-Ok.ensures.config) (last.2 octets fed.0 stands)),
    )

pub returns-clause-rose : goal.returns-clause-rose
returns-clause-rose g c = λ _.
    let none : IsTrue c.feed.new.self.has_stopped → ⊥ = λ stopped. c.in-Ok-feed.ensures.feeds.stops.0 stopped in
    let rose = c.in-Err.ensures.finishes.call.rose (taker_alone c.in-Err.field-0
    (λ is. none (c.in-Err.ensures.finishes.call.stopped.0 is))) in
    subst (λ (n : ℕ). Rose n (g.T.ItemTaker.faults c.finish.new.taker) (g.T.ItemTaker.is_last c.finish.new.taker))
    (c.in-Ok-feed.ensures.feeds.call.same (λ e. absurd cc)) rose
