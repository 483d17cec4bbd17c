-- Items handed over with no phase among them.
use Rattle.std.proofs.Common.{◌≡◌, ℕ, List, [], ◌∷◌, ◌++◌, map, refl, ap, ◌∙◌}
use Rattle.std.proofs.lemmas.List.{map-append}
use Rattle.tm_base.specs.Takers.{HandedOver, HandedPart}
use Rattle.tm_base.specs.Handed.{Handed, Phase, Item, on_handed, items_of}

pub HandedOver-items : {T I : Type 0} (on_phase : T → ℕ → ℕ → T → Type 0) (took : T → I → T → Type 0) (before now : T)
    (items : List I)
    → HandedOver took before items now → HandedOver (on_handed on_phase took) before (map Item items) now
HandedOver-items on_phase took before now [] handed = handed
HandedOver-items on_phase took before now (item ∷ items) handed =
    (handed.0, handed.1, HandedOver-items on_phase took handed.0 now items handed.2)

pub HandedPart-items : {T I : Type 0} (on_phase phase_broke : T → ℕ → ℕ → T → Type 0)
    (took broke : T → I → T → Type 0) (before now : T) (items : List I)
    → HandedPart took broke before items now → HandedPart (on_handed on_phase took)
    (on_handed phase_broke broke) before (map Item items) now
HandedPart-items on_phase phase_broke took broke before now items part = record {
  prefix = map Item part.prefix;
  next = Item part.next;
  rest = map Item part.rest;
  middle = part.middle;
  split = ap (map Item) part.split ∙ map-append Item part.prefix (part.next ∷ part.rest);
  handed = HandedOver-items on_phase took before part.middle part.prefix part.handed;
  failed = part.failed;
}

pub items_of-items : {I : Type 0} (items : List I) → items_of (map Item items) ≡ items
items_of-items [] = refl
items_of-items (item ∷ items) = ap (λ l. item ∷ l) (items_of-items items)

pub items_of-append : {I : Type 0} (xs ys : List (Handed I)) → items_of (xs ++ ys) ≡ items_of xs ++ items_of ys
items_of-append [] ys = refl
items_of-append (Phase skip cost ∷ xs) ys = items_of-append xs ys
items_of-append (Item item ∷ xs) ys = ap (λ l. item ∷ l) (items_of-append xs ys)
