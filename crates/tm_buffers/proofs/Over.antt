-- Arrays to whose start one thing after another is written.
use Rattle.std.proofs.Common.{◌≡◌, ◌==◌, ◌<◌, ◌++◌, ◌∙◌, ℕ, Bool, true, false, if◌then◌else◌, List, [], ◌∷◌, Option, None, length, slice_set, refl, ap, subst, arith, append_assoc, length-append}
use Rattle.std.proofs.lemmas.Bool.Decides.{nat_tests}
use Rattle.std.proofs.lemmas.List.{drop-drop}
use Rattle.std.proofs.Math.Seq.{drop-append_seam, take-append_seam}
use Rattle.tm_base.specs.Handed.{Handed, Item, Phase, items_of, on_handed}
use Rattle.tm_base.specs.Takers.{HandedOver}
use Rattle.tm_buffers.specs.Buffer.{IsAll, over}
use borrow.Rule.Slice.PartMut.{put_mid}

set : {T : Type 0} (things array : List T) (thing : T) → length things < length array
    → slice_set (over things array) (length things) thing ≡ over (things ++ thing ∷ []) array
set things [] thing some = absurd (omega (arith, some))
set [] (a ∷ array) thing some = refl
set (x ∷ things) (a ∷ array) thing some = ap (λ l. x ∷ l) (set things array thing (omega (arith, some)))

-- one thing more
pub over-set : {T : Type 0} (things array now : List T) (thing : T) (at : ℕ) → now ≡ over things array
    → at ≡ length things → at < length array → slice_set now at thing ≡ over (things ++ thing ∷ []) array
over-set things array now thing at is same some =
    ap (λ l. slice_set l at thing) is ∙ ap (λ n. slice_set (over things array) n thing) same
    ∙ set things array thing (omega (arith, same, some))

put : {T : Type 0} (things array piece : List T)
    → put_mid (length things) (length piece) (over things array) piece ≡ over (things ++ piece) array
put things array piece = simp (take-append_seam, drop-append_seam, drop-drop, length-append, append_assoc)

-- several more
pub over-put : {T : Type 0} (things array now piece new : List T) (at size : ℕ) → now ≡ over things array
    → at ≡ length things → new ≡ piece → size ≡ length piece → put_mid at size now new ≡ over (things ++ piece) array
over-put things array now piece new at size is same new_is size_is =
    simp (is, new_is, same, size_is) (put things array piece)

-- the answer is known where it is known whether all were written
pub answered : (is_short : Bool) (count all : ℕ) (answer : Option ℕ) → IsAll is_short count all
    → (if is_short then None else answer) ≡ (if count == all then answer else None)
answered true count all answer is = grind (arith, nat_tests, is.cut refl)
answered false count all answer is = grind (arith, nat_tests, is.whole refl)

-- where a phase does nothing the items alone were handed over
pub handed-items : {T I : Type 0} (took : T → I → T → Type 0) (a b : T) (more : List (Handed I))
    → HandedOver (on_handed (λ a skip cost b. b ≡ a) took) a more b → HandedOver took a (items_of more) b
handed-items took a b [] same = same
handed-items {T} took a b (Phase skip cost ∷ more) handed =
    subst (λ (t : T). HandedOver took t (items_of more) b) handed.1 (handed-items took handed.0 b more handed.2)
handed-items took a b (Item item ∷ more) handed =
    (handed.0, handed.1, handed-items took handed.0 b more handed.2)
