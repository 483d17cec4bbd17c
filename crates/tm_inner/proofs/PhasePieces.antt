-- The choice of the phase, and what is handed over after it.
use Rattle.std.proofs.Common.{◌≡◌, inl, inr, ℕ, ◌+◌, ◌≤◌, Bool, List, ◌∷◌, ◌++◌, length, map, sym, ap, ◌∙◌, arith, length-append, Option, Some, None}
use Rattle.std.proofs.lemmas.List.{map-append}
use Rattle.tm_base.specs.Handed.{Handed, Phase, Item, items_of}
use Rattle.tm_base.proofs.HandedItems.{items_of-items}
use Rattle.tm_config.specs.Configuration.{Configuration}
use Rattle.tm_config.proofs.Choices.{never_both}
use Rattle.tm_conv.specs.declared.rates.Rate.{Rate}
use Rattle.tm_windows.specs.declared.choosing.Chosen.{Chosen}
use Rattle.tm_windows.specs.Phase.{IsPhase, octets_needed}
use Rattle.tm_inner.specs.Symbols.{is_inverted}
use Rattle.tm_inner.specs.Phase.{PhaseAt, IsChosenBy, IsSettledBy, IsSoFarBy, needed_at, with_phase}

-- ---- the phase and the octets after

-- after the octets that it needs, the phase stays as it is
abbrev pub PhaseStays : Type 0
PhaseStays =
    (rate : Rate) (invert : Bool) (window : ℕ) (octets more : List ℕ) (chosen : Chosen)
    → octets_needed rate window ≤ length octets
    → IsPhase rate invert window octets chosen → IsPhase rate invert window (octets ++ more) chosen

phase-more : PhaseStays → (rate : Option Rate) (c : Configuration) (soft more : List ℕ) (chosen : Chosen)
    → needed_at rate c ≤ length soft
    → PhaseAt rate c soft chosen → PhaseAt rate c (soft ++ more) chosen
phase-more stays None c soft more chosen many is = is
phase-more stays (Some rate) c soft more chosen many is =
    stays rate (is_inverted rate c.invert) (c.keep + c.ahead) soft more chosen many is

pub settled-more : (c : Configuration) (soft more : List ℕ) → IsSettledBy c soft → IsSettledBy c (soft ++ more)
settled-more c soft more (inl given) = inl given
settled-more c soft more (inr many) = inr (omega (arith, many, length-append soft more))

pub choice-more : PhaseStays → (c : Configuration) (soft more : List ℕ) (chosen : Option Chosen) → IsSettledBy c soft
    → IsChosenBy c soft chosen → IsChosenBy c (soft ++ more) chosen
choice-more stays c soft more None settled is = is
choice-more stays c soft more (Some chosen) (inl given) is = absurd (never_both c.phase given is.0)
choice-more stays c soft more (Some chosen) (inr many) is =
    (is.0, phase-more stays c.inner c soft more chosen many is.1)

pub so-far : (c : Configuration) (soft : List ℕ) (chosen : Option Chosen) → IsSettledBy c soft
    → IsChosenBy c soft chosen → IsSoFarBy c soft chosen
so-far c soft None settled is = λ _. is
so-far c soft (Some chosen) settled is = (settled, is)

-- ---- what was handed over

pub with_phase-more : {I : Type 0} (chosen : Option Chosen) (items more : List I)
    → with_phase chosen (items ++ more) ≡ with_phase chosen items ++ map Item more
with_phase-more None items more = map-append Item items more
with_phase-more (Some chosen) items more = ap (λ l. Phase chosen.skip chosen.cost ∷ l) (map-append Item items more)

pub items_of-with_phase : {I : Type 0} (chosen : Option Chosen) (items : List I)
    → items_of (with_phase chosen items) ≡ items
items_of-with_phase None items = items_of-items items
items_of-with_phase (Some chosen) items = items_of-items items

pub further : {I : Type 0} (chosen : Option Chosen) (done : List (Handed I)) (items more : List I)
    → done ≡ with_phase chosen items → done ++ map Item more ≡ with_phase chosen (items ++ more)
further chosen done items more are = ap (λ l. l ++ map Item more) are ∙ sym (with_phase-more chosen items more)
