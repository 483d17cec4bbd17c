use Rattle.std.proofs.Common.{◌++◌, ◌∷◌, ◌∙◌, inr, ℕ, [], subst, refl, arith, Err, IsErrOf, IsTrue}
use Rattle.tm_base.proofs.Handing.{HandedOver-append, HandedPart-first, HandedPart-after}
use Rattle.tm_viterbi.specs.Settings.{Settings}
use Rattle.tm_viterbi.specs.Blocks.{AreBlocksOf}
use Rattle.tm_windows.specs.declared.decoder.FeedError.{FeedError}
use Rattle.tm_windows.specs.declared.decoder.FeedError.TheVariants.{Taker, Stopped}
use Rattle.tm_windows.proofs.decoder.decode_all.Goals as goal

pub returns-in-Ok-finish-clause-handed : goal.returns-in-Ok-finish-clause-handed
returns-in-Ok-finish-clause-handed g c =
    let fed = c.in-Ok-feed.ensures.handed in
    let last = c.in-Ok-finish.ensures.handed in
    let soft = c.args.soft.now in (
      fed.0 ++ last.0,
      HandedOver-append _ c.args.blocks.now c.feed.new.blocks c.finish.new.blocks fed.0 last.0 fed.1 last.1,
      λ few.
          let stands = (fed.2 [] [] (omega (arith, few)) c.in-Ok.ensures.stands).0 in
          subst (λ (v : Settings). AreBlocksOf v soft (fed.0 ++ last.0) c.in-Ok-finish.left)
          (c.feed.ensures.settings ∙ c.in-Ok.ensures.settings) (last.2 soft fed.0 stands),
    )

taker_alone : (e : FeedError) → (IsErrOf {T = ℕ} (Err e) Stopped → ⊥) → IsErrOf {T = ℕ} (Err e) Taker
taker_alone Taker h = refl
taker_alone Stopped h = absurd (h refl)

pub returns-clause-prefix : goal.returns-clause-prefix
returns-clause-prefix g c = λ _.
    let fed = c.in-Ok-feed.ensures.handed in
    let none : IsTrue c.feed.new.self.has_stopped → ⊥ = λ stopped. c.in-Ok-feed.ensures.stops.0 stopped in
    let soft = c.args.soft.now in
    let last = c.in-Err.ensures.prefix (taker_alone c.in-Err.field-0
    (λ is. none (c.in-Err.ensures.call.stopped.0 is))) in (
      fed.0 ++ last.0 ∷ [],
      HandedPart-after _ _ c.args.blocks.now c.feed.new.blocks c.finish.new.blocks fed.0 (last.0 ∷ []) fed.1
          (HandedPart-first _ _ c.feed.new.blocks c.finish.new.blocks last.0 [] last.1),
      λ few.
          let stands = (fed.2 [] [] (omega (arith, few)) c.in-Ok.ensures.stands).0 in
          let blocks = last.2 soft fed.0 stands in
          inr (
            blocks.0,
            subst (λ (v : Settings). AreBlocksOf v soft (fed.0 ++ last.0 ∷ []) blocks.0)
                (c.feed.ensures.settings ∙ c.in-Ok.ensures.settings) blocks.1,
          ),
    )
