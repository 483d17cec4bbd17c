-- Items handed over one after another.
use Rattle.std.proofs.Common.{List, [], ◌∷◌, ◌++◌, refl, ap, sym, subst, ◌∙◌, append_assoc}
use Rattle.std.proofs.lemmas.Fn.{FoldsTo-push}
use Rattle.tm_base.specs.Takers.{HandedOver, HandedPart}

pub HandedOver-one : {T I : Type 0} (took : T → I → T → Type 0) (before now : T) (item : I) → took before item now
    → HandedOver took before (item ∷ []) now
HandedOver-one took before now item taken = (now, taken, refl)

-- one item more
pub HandedOver-push : {T I : Type 0} (took : T → I → T → Type 0) (before middle now : T) (items : List I) (item : I)
    → HandedOver took before items middle → took middle item now → HandedOver took before (items ++ item ∷ []) now
HandedOver-push took before middle now items item handed taken =
    FoldsTo-push took before items middle item now handed taken

-- items, and then further ones
pub HandedOver-append : {T I : Type 0} (took : T → I → T → Type 0) (before middle now : T) (xs ys : List I)
    → HandedOver took before xs middle → HandedOver took middle ys now → HandedOver took before (xs ++ ys) now
HandedOver-append took before middle now [] ys first second = subst (λ t. HandedOver took t ys now) (sym first) second
HandedOver-append took before middle now (x ∷ xs) ys first second =
    (first.0, first.1, HandedOver-append took first.0 middle now xs ys first.2 second)

-- the taker failed at the first of the items
pub HandedPart-first : {T I : Type 0} (took broke : T → I → T → Type 0) (before now : T) (item : I) (items : List I)
    → broke before item now → HandedPart took broke before (item ∷ items) now
HandedPart-first took broke before now item items failed =
    record { prefix = []; next = item; rest = items; middle = before; split = refl; handed = refl; failed = failed }

-- items that were taken, and then a part of further ones
pub HandedPart-after : {T I : Type 0} (took broke : T → I → T → Type 0) (before middle now : T) (xs ys : List I)
    → HandedOver took before xs middle → HandedPart took broke middle ys now
    → HandedPart took broke before (xs ++ ys) now
HandedPart-after took broke before middle now xs ys first part = record {
  prefix = xs ++ part.prefix;
  next = part.next;
  rest = part.rest;
  middle = part.middle;
  split = ap (λ l. xs ++ l) part.split ∙ sym (append_assoc xs part.prefix (part.next ∷ part.rest));
  handed = HandedOver-append took before middle part.middle xs part.prefix first part.handed;
  failed = part.failed;
}
