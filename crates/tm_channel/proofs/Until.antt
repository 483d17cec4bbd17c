-- A taker to which things are handed on until it fails.
use Rattle.std.proofs.Common.{◌≡◌, ℕ, List, [], ◌∷◌, sym, ap, ◌∙◌}
use Rattle.tm_base.specs.Handed.{Handed, Item, Phase, on_handed}
use Rattle.tm_base.specs.Takers.{HandedOver}
use Rattle.tm_inner.specs.UntilFault.{Passes}
use Rattle.tm_inner.proofs.Until.{PassesAll, passes-more, passes-none}
use Rattle.tm_channel.specs.Items.{ItemValue}
use Rattle.tm_channel.specs.declared.until_fault.UntilFault.{UntilFault}

module _ {T : Type 0} (took_phase broke_phase : T → ℕ → ℕ → T → Type 0) (took broke : T → ItemValue → T → Type 0)
    (faults : T → ℕ) (is_last : T → Type 0) where
  abbrev pub Took : UntilFault T → ItemValue → UntilFault T → Type 0
  Took a item b = (b.taker.ghost_name ≡ a.taker.ghost_name)
      × Passes (λ before now. took before item now) (λ before now. broke before item now) faults is_last a.has_failed
      a.taker.now b.has_failed b.taker.now

  abbrev pub TookPhase : UntilFault T → ℕ → ℕ → UntilFault T → Type 0
  TookPhase a skip cost b = (b.taker.ghost_name ≡ a.taker.ghost_name)
      × Passes (λ before now. took_phase before skip cost now) (λ before now. broke_phase before skip cost now) faults
      is_last a.has_failed a.taker.now b.has_failed b.taker.now

  pub passes-all : (a b : UntilFault T) (handed : List (Handed ItemValue))
      → HandedOver (on_handed TookPhase Took) a handed b
      → (b.taker.ghost_name ≡ a.taker.ghost_name) × PassesAll (on_handed took_phase took)
      (on_handed broke_phase broke) faults is_last handed a.has_failed a.taker.now b.has_failed b.taker.now
  passes-all a b [] same = (
    ap (λ (u : UntilFault T). u.taker.ghost_name) (sym same),
    passes-none (on_handed took_phase took) (on_handed broke_phase broke) faults is_last a.has_failed b.has_failed
        a.taker.now b.taker.now (ap (λ (u : UntilFault T). u.has_failed) (sym same))
        (ap (λ (u : UntilFault T). u.taker.now) (sym same)),
  )
  passes-all a b (Phase skip cost ∷ handed) h =
      let rest = passes-all h.0 b handed h.2 in (
        rest.0 ∙ h.1.0,
        passes-more (on_handed took_phase took) (on_handed broke_phase broke) faults is_last (Phase skip cost) handed
            a.has_failed h.0.has_failed b.has_failed a.taker.now h.0.taker.now b.taker.now h.1.1 rest.1,
      )
  passes-all a b (Item item ∷ handed) h =
      let rest = passes-all h.0 b handed h.2 in (
        rest.0 ∙ h.1.0,
        passes-more (on_handed took_phase took) (on_handed broke_phase broke) faults is_last (Item item) handed
            a.has_failed h.0.has_failed b.has_failed a.taker.now h.0.taker.now b.taker.now h.1.1 rest.1,
      )
