-- The places in marked streams, where places are looked for inside codeblocks too.
use Rattle.std.proofs.Common.{◌≡◌, ℕ, ◌+◌, ◌-◌, ◌<◌, ◌≤◌, Bool, true, false, List, [], ◌∷◌, length, drop, refl, sym, ap, ◌∙◌, subst, arith, Some, None, length-drop, ◌⊎◌, inl, inr}
use Rattle.std.specs.List.{AllByRecursion}
use Rattle.std.proofs.lemmas.List.{drop-drop}
use Rattle.tm_sync.specs.declared.found.Found.{Found}
use Rattle.tm_sync.specs.declared.found.Columns.{Columns}
use Rattle.tm_sync.specs.Places.{Rules, match_of}
use Rattle.tm_sync.specs.Rescan.{Soundness, places_with}
use Rattle.tm_sync.specs.PlacesInside.{HasNoneInside, MayStand, never}
use Rattle.tm_sync.specs.Marked.{Entry, places_of, IsMarked, clean_entries, clean_places}
use Rattle.tm_sync.proofs.MarkedStreams.{places-marked}
use Rattle.tm_sync.proofs.CleanStreams.{AreSized, after-sent, clean-marked, length-sent, match-sent, places_of-clean, sent}
use Rattle.tm_sync.proofs.Differing.{places-never, same-none}

pub places-alone : (rules : Rules) (columns : Columns) (sound : Soundness) (bits : List Bool) (entries : List Entry)
    (last : List Bool) → IsMarked rules bits entries last
    → AllByRecursion (MayStand rules columns bits) (places_of rules 0 None entries)
    → AllByRecursion (HasNoneInside rules columns sound bits) (places_of rules 0 None entries)
    → places_with rules (Some columns) sound bits ≡ places_of rules 0 None entries
places-alone rules columns sound bits entries last marked may empty =
    same-none rules columns sound bits
    (subst (λ fs. AllByRecursion (HasNoneInside rules columns sound bits) fs) (sym off) empty) ∙ off
  where
    off : places_with rules (Some columns) never bits ≡ places_of rules 0 None entries
    off =
        let are = places-marked rules bits entries last marked in
        places-never rules columns bits (subst (λ fs. AllByRecursion (MayStand rules columns bits) fs) (sym are) may)
        ∙ are

-- ---- codeblocks that nothing disturbed

-- each of these places has a sound codeblock
abbrev pub AreSound : Soundness → List Found → Type 0
AreSound sound = AllByRecursion (λ f. sound f.place f.inverted ≡ true)

-- none is bridged
clean-may : (rules : Rules) (columns : Columns) (whole : List Bool) (at : ℕ) (blocks : List (List Bool))
    → AllByRecursion (MayStand rules columns whole) (clean_places rules.block_bits at blocks)
clean-may rules columns whole at [] = tt
clean-may rules columns whole at (block ∷ blocks) =
    (λ no. absurd (cc), clean-may rules columns whole (at + 32 + rules.block_bits) blocks)

-- a sound codeblock with a marker right after it, or with nothing
clean-none : (rules : Rules) (columns : Columns) (sound : Soundness) (whole : List Bool) (at : ℕ)
    (blocks : List (List Bool)) → AreSized rules blocks → sent blocks ≡ drop at whole
    → AreSound sound (clean_places rules.block_bits at blocks)
    → AllByRecursion (HasNoneInside rules columns sound whole) (clean_places rules.block_bits at blocks)
clean-none rules columns sound whole at [] sized rest says = tt
clean-none rules columns sound whole at (block ∷ blocks) sized rest says = (
  λ q inverted counts. elim counts.is_open [
    | inl not_sound ↦ let no : true ≡ false = sym says.0 ∙ not_sound in absurd (cc)
    | inr late ↦ go blocks sized rest counts.after counts.room
        (sym (ap (match_of rules) (behind blocks sized rest)) ∙ late.1)
  ],
  clean-none rules columns sound whole (at + 32 + rules.block_bits) blocks sized.1 (sym (behind blocks sized rest))
      says.1,
)
  where
    behind : (blocks : List (List Bool)) → AreSized rules (block ∷ blocks) → sent (block ∷ blocks) ≡ drop at whole
        → drop (at + 32 + rules.block_bits) whole ≡ sent blocks
    behind blocks sized rest =
        ap (λ n. drop n whole) (omega arith) ∙ sym (drop-drop (32 + rules.block_bits) at whole)
        ∙ ap (drop (32 + rules.block_bits)) (sym rest) ∙ after-sent rules block blocks sized.0

    go : (blocks : List (List Bool)) → AreSized rules (block ∷ blocks) → sent (block ∷ blocks) ≡ drop at whole
        → {q : ℕ} → at < q → q + 32 + rules.block_bits ≤ length whole → match_of rules (sent blocks) ≡ None → ⊥
    go [] sized rest after room unmatched =
        let size = length-sent rules (block ∷ []) sized in
        let left : length (sent (block ∷ [])) ≡ length whole - at = ap length rest ∙ length-drop at whole in
        omega arith
    go (block' ∷ blocks) sized rest after room unmatched =
        let no : Some false ≡ None = sym (match-sent rules block' blocks) ∙ unmatched in absurd (cc)

pub places-clean_inside : (rules : Rules) (columns : Columns) (sound : Soundness) (blocks : List (List Bool))
    → AreSized rules blocks → (blocks ≡ []) ⊎ (rules.verify < length blocks)
    → AreSound sound (clean_places rules.block_bits 0 blocks)
    → places_with rules (Some columns) sound (sent blocks) ≡ clean_places rules.block_bits 0 blocks
places-clean_inside rules columns sound blocks sized enough says =
    let are = places_of-clean rules 0 None blocks in
    places-alone rules columns sound (sent blocks) (clean_entries blocks) [] (clean-marked rules blocks sized enough)
    (subst (λ fs. AllByRecursion (MayStand rules columns (sent blocks)) fs) (sym are)
    (clean-may rules columns (sent blocks) 0 blocks))
    (subst (λ fs. AllByRecursion (HasNoneInside rules columns sound (sent blocks)) fs) (sym are)
    (clean-none rules columns sound (sent blocks) 0 blocks sized refl says)) ∙ are
