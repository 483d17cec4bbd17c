-- The phase among what is handed over, and lists with nothing in them.
use Rattle.std.proofs.Common.{◌≡◌, List, [], ◌∷◌, ◌++◌, refl, sym, ap, ◌∙◌, Option, Some, None}
use Rattle.tm_base.specs.Handed.{Handed, Phase, Item}
use Rattle.tm_base.specs.Takers.{HandedPart}
use Rattle.tm_windows.specs.declared.choosing.Chosen.{Chosen}
use Rattle.tm_inner.specs.Phase.{with_phase}

-- ---- the phase

phase_in : {I : Type 0} → List (Handed I) → Option Chosen
phase_in [] = None
phase_in (Phase skip cost ∷ handed) = Some (record { skip = skip; cost = cost })
phase_in (Item item ∷ handed) = None

in-phase : {I : Type 0} (chosen : Option Chosen) (items : List I) → phase_in (with_phase chosen items) ≡ chosen
unfolding phase_in
in-phase None [] = refl
in-phase None (item ∷ items) = refl
in-phase (Some chosen) items = refl

pub same-phase : {I : Type 0} (a b : Option Chosen) (xs ys : List I) → with_phase a xs ≡ with_phase b ys → a ≡ b
same-phase a b xs ys same = sym (in-phase a xs) ∙ ap phase_in same ∙ in-phase b ys

-- ---- lists with nothing in them

pub prefix-nil : {A : Type 0} (xs ys : List A) → xs ++ ys ≡ [] → (xs ≡ []) × (ys ≡ [])
prefix-nil [] ys none = (refl, none)
prefix-nil (x ∷ xs) ys none = absurd cc

cons-nil : {A : Type 0} (x : A) (xs : List A) → x ∷ xs ≡ [] → ⊥
cons-nil x xs none = absurd cc

-- a taker fails at something
pub part-some : {T I : Type 0} (took broke : T → I → T → Type 0) (taker now : T) (items : List I)
    → HandedPart took broke taker items now → items ≡ [] → ⊥
part-some took broke taker now items part none =
    cons-nil part.next part.rest (prefix-nil part.prefix (part.next ∷ part.rest) (sym part.split ∙ none)).1
