use Rattle.std.proofs.Common.{◌≡◌, ◌++◌, ◌∙◌, sym, true, false, [], subst, arith, length, IsTrue}
use Rattle.tm_base.specs.Handed.{items_of}
use Rattle.tm_base.proofs.Handing.{HandedOver-append, HandedPart-after}
use Rattle.tm_config.specs.Configuration.{Configuration}
use Rattle.tm_inner.specs.Inner.{inner_bits, reported_slips}
use Rattle.tm_inner.specs.Handing.{AreHanded, AreHandedFirst, AreHandedPrefix}
use Rattle.tm_inner.proofs.GivenPieces.{taker_alone}
use Rattle.tm_inner.proofs.HandedPieces.{prefix-first}
use Rattle.tm_inner.proofs.inner_receiver.inner_all.Goals as goal

pub returns-in-Ok-finish-clause-handed : goal.returns-in-Ok-finish-clause-handed
returns-in-Ok-finish-clause-handed g c =
    let fed = c.in-Ok-feed.ensures.handed in
    let last = c.in-Ok-finish.ensures.handed in
    let octets = c.args.octets.now in
    let all = fed.0 ++ last.0 in (
      all,
      HandedOver-append _ c.args.blocks.now c.feed.new.blocks c.finish.new.blocks fed.0 last.0 fed.1 last.1,
      λ few.
          let stands = (fed.2 [] [] (omega (arith, few)) c.in-Ok.ensures.stands).0 in
          subst (λ (v : Configuration). AreHanded v octets all c.in-Ok-finish.end.leftover
          × (c.in-Ok-finish.end.bits ≡ length (inner_bits v octets (items_of all)))
          × (c.in-Ok-finish.end.slips ≡ reported_slips v (items_of all)))
          (c.feed.ensures.config ∙ c.in-Ok.ensures.config) (last.2 octets fed.0 stands),
    )

pub returns-clause-prefix : goal.returns-clause-prefix
returns-clause-prefix g c = λ _.
    let fed = c.in-Ok-feed.ensures.handed in
    let none : IsTrue c.feed.new.self.has_stopped → ⊥ = λ stopped. c.in-Ok-feed.ensures.stops.0 stopped in
    let octets = c.args.octets.now in
    let last = c.in-Err.ensures.prefix (taker_alone c.in-Err.field-0
    (λ is. none (c.in-Err.ensures.call.stopped.0 is))) in (
      fed.0 ++ last.0,
      HandedPart-after _ _ c.args.blocks.now c.feed.new.blocks c.finish.new.blocks fed.0 last.0 fed.1 last.1,
      λ few.
          let stands = (fed.2 [] [] (omega (arith, few)) c.in-Ok.ensures.stands).0 in
          subst (λ (v : Configuration). AreHandedPrefix v octets (fed.0 ++ last.0))
          (c.feed.ensures.config ∙ c.in-Ok.ensures.config) (last.2 octets fed.0 stands),
    )

pub returns-in_default-feed-clause-prefix : goal.returns-in_default-feed-clause-prefix
returns-in_default-feed-clause-prefix g c = λ _.
    let none : IsTrue c.in-Ok.receiver.has_stopped → ⊥ = λ stopped. let both : true ≡ false = sym stopped
    ∙ c.in-Ok.ensures.fresh in absurd cc in
    let octets = c.args.octets.now in
    let tried = c.in_default-feed.ensures.prefix (taker_alone c.in_default-feed.field-0
    (λ is. none (c.in_default-feed.ensures.call.stopped.0 is))) in (
      tried.0,
      tried.1,
      λ few. prefix-first c.args.config.now octets tried.0
          (subst (λ (v : Configuration). AreHandedFirst v octets tried.0) c.in-Ok.ensures.config
          (tried.2 [] [] (omega (arith, few)) c.in-Ok.ensures.stands)),
    )
