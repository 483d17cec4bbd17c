-- One step of the search that looks inside codeblocks too, and what is left of it without that.
use Rattle.std.proofs.Common.{◌≡◌, ℕ, zero, suc, ◌+◌, ◌<◌, ◌≤◌, Bool, true, false, cond, ◌==◌, List, [], ◌∷◌, refl, sym, ap, ◌∙◌, subst, arith, Option, Some, None, ◌⊎◌, inl, inr}
use Rattle.std.specs.Option.{option_map_or}
use Rattle.std.proofs.lemmas.Bool.Decides.{nat_tests}
use Rattle.tm_sync.specs.declared.found.Found.{Found}
use Rattle.tm_sync.specs.declared.found.Before.{Before}
use Rattle.tm_sync.specs.Places.{Rules, place_at, before_next, places, places_from}
use Rattle.tm_sync.specs.declared.found.Columns.{Columns}
use Rattle.tm_sync.specs.Rescan.{Soundness, Last, ends_at, is_inside, place_outside, place_inside, place_here, last_at, places_after, places_with}
use Rattle.tm_sync.proofs.Steps.{places_from-nil, places_from-one, places_from-miss, places_from-inside}
use Rattle.tm_sync.proofs.Longer.{Seen, none, some, seen}

-- ---- one step
pub places_after-nil : (rules : Rules) (columns : Option Columns) (sound : Soundness) (at : ℕ) (last : Option Last)
    → places_after rules columns sound at last [] ≡ []
unfolding places_after
places_after-nil rules columns sound at last = refl

pub places_after-miss : (rules : Rules) (columns : Option Columns) (sound : Soundness) (at : ℕ) (last : Option Last)
    (b : Bool) (bits : List Bool) → place_here rules columns sound at last (b ∷ bits) ≡ None
    → places_after rules columns sound at last (b ∷ bits) ≡ places_after rules columns sound (at + 1) last bits
unfolding places_after
places_after-miss rules columns sound at last b bits e =
    ap (λ (o : Option Found). option_map_or (λ f. f ∷ places_after rules columns sound (at + 1)
    (Some (last_at rules sound at last f)) bits) o (places_after rules columns sound (at + 1) last bits)) e

pub places_after-one : (rules : Rules) (columns : Option Columns) (sound : Soundness) (at : ℕ) (last : Option Last)
    (b : Bool) (bits : List Bool) (f : Found) → place_here rules columns sound at last (b ∷ bits) ≡ Some f
    → places_after rules columns sound at last (b ∷ bits)
    ≡ f ∷ places_after rules columns sound (at + 1) (Some (last_at rules sound at last f)) bits
unfolding places_after
places_after-one rules columns sound at last b bits f e =
    ap (λ (o : Option Found). option_map_or (λ f. f ∷ places_after rules columns sound (at + 1)
    (Some (last_at rules sound at last f)) bits) o (places_after rules columns sound (at + 1) last bits)) e

-- what is said of the places after a bit, after a place and in the bits that are left
abbrev pub OfPlaces : Type 1
OfPlaces = ℕ → Option Last → List Bool → List Found → Type 0

-- it stays so with a bit at which no place stands, or one
abbrev pub StaysAtNone : Rules → Option Columns → Soundness → OfPlaces → Type 0
StaysAtNone rules columns sound P = (at : ℕ) (last : Option Last) (b : Bool) (bits : List Bool) (fs : List Found)
    → place_here rules columns sound at last (b ∷ bits) ≡ None → P (at + 1) last bits fs → P at last (b ∷ bits) fs

abbrev pub StaysAtOne : Rules → Option Columns → Soundness → OfPlaces → Type 0
StaysAtOne rules columns sound P =
    (at : ℕ) (last : Option Last) (b : Bool) (bits : List Bool) (f : Found) (fs : List Found)
    → place_here rules columns sound at last (b ∷ bits) ≡ Some f
    → P (at + 1) (Some (last_at rules sound at last f)) bits fs → P at last (b ∷ bits) (f ∷ fs)

-- so it is of all places
pub by_bits : (rules : Rules) (columns : Option Columns) (sound : Soundness) (P : OfPlaces)
    → ((at : ℕ) (last : Option Last) → P at last [] []) → StaysAtNone rules columns sound P
    → StaysAtOne rules columns sound P
    → (at : ℕ) (last : Option Last) (bits : List Bool) → P at last bits (places_after rules columns sound at last bits)
by_bits rules columns sound P nil miss one at last [] =
    subst (λ (fs : List Found). P at last [] fs) (sym (places_after-nil rules columns sound at last)) (nil at last)
by_bits rules columns sound P nil miss one at last (b ∷ bits) =
    go (λ last. by_bits rules columns sound P nil miss one (at + 1) last bits)
    (seen (place_here rules columns sound at last (b ∷ bits)))
  where
    go : ((last : Option Last) → P (at + 1) last bits (places_after rules columns sound (at + 1) last bits))
        → Seen (place_here rules columns sound at last (b ∷ bits))
        → P at last (b ∷ bits) (places_after rules columns sound at last (b ∷ bits))
    go next (none e) =
        subst (λ (fs : List Found). P at last (b ∷ bits) fs) (sym (places_after-miss rules columns sound at last b bits e))
        (miss at last b bits (places_after rules columns sound (at + 1) last bits) e (next last))
    go next (some f e) =
        let l = last_at rules sound at last f in
        subst (λ (fs : List Found). P at last (b ∷ bits) fs) (sym (places_after-one rules columns sound at last b bits f e))
        (one at last b bits f (places_after rules columns sound (at + 1) (Some l) bits) e (next (Some l)))

pub place_here-outside : (rules : Rules) (columns : Option Columns) (sound : Soundness) (at : ℕ) (last : Option Last)
    (bits : List Bool) → is_inside at last ≡ false
    → place_here rules columns sound at last bits
    ≡ place_outside rules columns bits (place_at rules at (ends_at at last) bits)
unfolding place_here
place_here-outside rules columns sound at last bits e =
    ap (λ c. cond c (place_inside rules columns sound at last bits)
    (place_outside rules columns bits (place_at rules at (ends_at at last) bits))) e

pub place_here-inside : (rules : Rules) (columns : Option Columns) (sound : Soundness) (at : ℕ) (last : Option Last)
    (bits : List Bool) → is_inside at last ≡ true
    → place_here rules columns sound at last bits ≡ place_inside rules columns sound at last bits
unfolding place_here
place_here-inside rules columns sound at last bits e =
    ap (λ c. cond c (place_inside rules columns sound at last bits)
    (place_outside rules columns bits (place_at rules at (ends_at at last) bits))) e

-- ---- without columns
-- the place before a bit says the same as how many bits are skipped, and what ends before the next one
abbrev Same : ℕ → ℕ → Option Before → Option Last → Type 0
Same at skip before None = (skip ≡ 0) × (before ≡ None)
Same at skip before (Some last) = ((last.end ≡ at + skip) × (before ≡ Some last.before))
    ⊎ ((last.end < at) × ((skip ≡ 0) × (before ≡ None)))

within : (at skip : ℕ) (before : Option Before) (last : Option Last) → Same at (suc skip) before last
    → (is_inside at last ≡ true) × Same (at + 1) skip before last
within at skip before None same = absurd (omega (arith, same.0))
within at skip before (Some last) (inl same) = (grind (arith, nat_tests, same.0), inl (omega (arith, same.0), same.1))
within at skip before (Some last) (inr same) = absurd (omega (arith, same.1.0))

passed : (at : ℕ) (last : Last) → last.end ≤ at → is_inside at (Some last) ≡ false
passed at last le = grind (arith, nat_tests)

ends-here : (at : ℕ) (last : Last) → last.end ≡ at → ends_at at (Some last) ≡ Some last.before
ends-here at last e =
    let test : (at == last.end) ≡ true = grind (arith, nat_tests) in
    ap (λ c. cond c (Some last.before) None) test

ends-before : (at : ℕ) (last : Last) → last.end < at → ends_at at (Some last) ≡ None
ends-before at last lt =
    let test : (at == last.end) ≡ false = grind (arith, nat_tests) in
    ap (λ c. cond c (Some last.before) None) test

outside : (at : ℕ) (before : Option Before) (last : Option Last) → Same at 0 before last
    → (is_inside at last ≡ false) × ((ends_at at last ≡ before) × Same (at + 1) 0 None last)
outside at before None same = (refl, (sym same.1, (refl, refl)))
outside at before (Some last) (inl same) = (
  passed at last (omega (arith, same.0)),
  (
    ends-here at last (omega (arith, same.0)) ∙ sym same.1,
    inr (omega (arith, same.0), (refl, refl)),
  ),
)
outside at before (Some last) (inr same) = (
  passed at last (omega (arith, same.0)),
  (
    ends-before at last same.0 ∙ sym same.1.1,
    inr (omega (arith, same.0), (refl, refl)),
  ),
)

-- what is left where nothing is looked for inside codeblocks
pub places_after-off : (rules : Rules) (sound : Soundness) (at skip : ℕ) (before : Option Before) (last : Option Last)
    (bits : List Bool) → Same at skip before last
    → places_after rules None sound at last bits ≡ places_from rules at skip before bits
places_after-off rules sound at skip before last [] same =
    places_after-nil rules None sound at last ∙ sym (places_from-nil rules at skip before)
places_after-off rules sound at (suc skip) before last (b ∷ bits) same =
    let w = within at skip before last same in
    places_after-miss rules None sound at last b bits (place_here-inside rules None sound at last (b ∷ bits) w.0)
    ∙ places_after-off rules sound (at + 1) skip before last bits w.1
    ∙ sym (places_from-inside rules at skip before b bits)
places_after-off rules sound at zero before last (b ∷ bits) same =
    let o = outside at before last same in
    let here : place_here rules None sound at last (b ∷ bits) ≡ place_at rules at before (b ∷ bits) =
    place_here-outside rules None sound at last (b ∷ bits) o.0
    ∙ ap (λ before. place_at rules at before (b ∷ bits)) o.1.0 in
    go here o (λ skip before last. places_after-off rules sound (at + 1) skip before last bits)
    (seen (place_at rules at before (b ∷ bits)))
  where
    go : place_here rules None sound at last (b ∷ bits) ≡ place_at rules at before (b ∷ bits)
        → (is_inside at last ≡ false) × ((ends_at at last ≡ before) × Same (at + 1) 0 None last)
        → ((skip : ℕ) (before : Option Before) (last : Option Last) → Same (at + 1) skip before last
        → places_after rules None sound (at + 1) last bits ≡ places_from rules (at + 1) skip before bits)
        → Seen (place_at rules at before (b ∷ bits))
        → places_after rules None sound at last (b ∷ bits) ≡ places_from rules at 0 before (b ∷ bits)
    go here o next (none e) =
        places_after-miss rules None sound at last b bits (here ∙ e) ∙ next 0 None last o.1.1
        ∙ sym (places_from-miss rules at before b bits e)
    go here o next (some f e) =
        let l = last_at rules sound at last f in
        let before_is : Some (before_next before f) ≡ Some l.before =
        ap (λ before. Some (before_next before f)) (sym o.1.0) in
        places_after-one rules None sound at last b bits f (here ∙ e)
        ∙ ap (λ fs. f ∷ fs) (next (31 + rules.block_bits) (Some (before_next before f)) (Some l)
        (inl (omega arith, before_is)))
        ∙ sym (places_from-one rules at before b bits f e)

pub places_with-off : (rules : Rules) (sound : Soundness) (bits : List Bool)
    → places_with rules None sound bits ≡ places rules bits
places_with-off rules sound bits = places_after-off rules sound 0 0 None None bits (refl, refl)
