-- Where places differ from those without any inside codeblocks.
use Rattle.std.proofs.Common.{◌≡◌, ℕ, ◌+◌, ◌<◌, ◌≤◌, Bool, true, false, cond, not, ◌&&◌, List, [], ◌∷◌, ◌++◌, length, drop, refl, sym, ap, ◌∙◌, subst, arith, Option, Some, None, ◌⊎◌, inl, inr}
use Rattle.std.specs.List.{AllByRecursion}
use Rattle.std.specs.Option.{option_map}
use Rattle.std.proofs.lemmas.Bool.{cases_Bool, cases_lt}
use Rattle.std.proofs.lemmas.Bool.Decides.{nat_tests}
use Rattle.tm_sync.specs.declared.found.Found.{Found}
use Rattle.tm_sync.specs.declared.found.Columns.{Columns}
use Rattle.tm_sync.specs.Places.{Rules, match_of, before_next, place_at, places, found_at}
use Rattle.tm_sync.specs.Rescan.{Soundness, Last, ends_at, is_inside, is_open, may_bridge, sound_place, place_outside, place_inside, place_here, last_at, places_after, places_with}
use Rattle.tm_sync.specs.PlacesInside.{end_of, CountsInside, AreInOrder, HasNoneInside, MayStand, DifferInside, never}
use Rattle.tm_sync.proofs.Rescanned.{OfPlaces, StaysAtNone, StaysAtOne, by_bits, places_after-nil, places_after-miss, places_after-one, place_here-inside, place_here-outside, places_with-off}
use Rattle.tm_sync.proofs.Prefixes.{inside-room, inside-short, place_here-place, places_after-start}
use Rattle.tm_sync.proofs.FoundInside.{with_last, IsLast, last-next, last-found, rest-next, rest-some, counts-here, here-counts, order-all}

-- ---- where no codeblock is sound

cond-none : (c : Bool) (o : Option Found) → o ≡ None → cond c o None ≡ None
cond-none true o e = e
cond-none false o e = refl

-- nothing stands inside one
none-never : (rules : Rules) (columns : Columns) (at : ℕ) (last : Option Last) (bits : List Bool)
    → is_inside at last ≡ true → place_here rules (Some columns) never at last bits ≡ None
none-never rules columns at last bits in_it =
    place_here-inside rules (Some columns) never at last bits in_it ∙ go last
  where
    no : (polarity : Option Bool) → sound_place never at bits polarity ≡ None
    no None = refl
    no (Some inverted) = refl

    go : (last : Option Last) → place_inside rules (Some columns) never at last bits ≡ None
    go None = refl
    go (Some last) = elim (cases_lt (length bits) (32 + rules.block_bits)) [
      | inl short ↦ inside-short rules (Some columns) never at (Some last) bits short
      | inr room ↦ inside-room rules columns never at last bits room
          ∙ cond-none (is_open rules columns at last bits) (sound_place never at bits (match_of rules bits))
          (no (match_of rules bits))
    ]

-- places are those without looking inside, where all of these may stand
never-off : (rules : Rules) (columns : Columns) (whole : List Bool) (at : ℕ) (last : Option Last) (bits : List Bool)
    → bits ≡ drop at whole
    → AllByRecursion (MayStand rules columns whole) (places_after rules None never at last bits)
    → places_after rules (Some columns) never at last bits ≡ places_after rules None never at last bits
never-off rules columns whole =
    by_bits rules None never P (λ at last rest may. places_after-nil rules (Some columns) never at last) miss one
  where
    P : OfPlaces
    P at last bits fs = bits ≡ drop at whole → AllByRecursion (MayStand rules columns whole) fs
        → places_after rules (Some columns) never at last bits ≡ fs

    miss : StaysAtNone rules None never P
    miss at last b bits fs e next rest may =
        places_after-miss rules (Some columns) never at last b bits (by (cases_Bool (is_inside at last)))
        ∙ next (rest-next b bits whole at rest) may
      where
        by : (is_inside at last ≡ true) ⊎ (is_inside at last ≡ false)
            → place_here rules (Some columns) never at last (b ∷ bits) ≡ None
        by (inl in_it) = none-never rules columns at last (b ∷ bits) in_it
        by (inr out) =
            place_here-outside rules (Some columns) never at last (b ∷ bits) out
            ∙ ap (place_outside rules (Some columns) (b ∷ bits))
            (sym (place_here-outside rules None never at last (b ∷ bits) out) ∙ e)

    one : StaysAtOne rules None never P
    one at last b bits f fs e next rest (may, others) =
        places_after-one rules (Some columns) never at last b bits f (by (cases_Bool (is_inside at last)))
        ∙ ap (λ fs. f ∷ fs) (next (rest-next b bits whole at rest) others)
      where
        stands : (f.bridged ≡ true) ⊎ (f.bridged ≡ false)
            → place_outside rules (Some columns) (b ∷ bits) (Some f) ≡ Some f
        stands (inr is) = ap (λ c. cond (c && not (may_bridge rules columns f.inverted (b ∷ bits))) None (Some f)) is
        stands (inl is) =
            let here : (b ∷ bits) ≡ drop f.place whole =
            rest ∙ ap (λ n. drop n whole) (sym (place_here-place rules None never at last (b ∷ bits) f e)) in
            let yes : may_bridge rules columns f.inverted (b ∷ bits) ≡ true =
            ap (may_bridge rules columns f.inverted) here ∙ may is in
            (λ i. cond (is i && not (yes i)) None (Some f))

        by : (is_inside at last ≡ true) ⊎ (is_inside at last ≡ false)
            → place_here rules (Some columns) never at last (b ∷ bits) ≡ Some f
        by (inl in_it) = absurd (let no : None ≡ Some f =
            sym (place_here-inside rules None never at last (b ∷ bits) in_it) ∙ e in cc)
        by (inr out) =
            place_here-outside rules (Some columns) never at last (b ∷ bits) out
            ∙ ap (place_outside rules (Some columns) (b ∷ bits))
            (sym (place_here-outside rules None never at last (b ∷ bits) out) ∙ e) ∙ stands (cases_Bool f.bridged)

pub places-never : (rules : Rules) (columns : Columns) (bits : List Bool)
    → AllByRecursion (MayStand rules columns bits) (places rules bits)
    → places_with rules (Some columns) never bits ≡ places rules bits
places-never rules columns bits may =
    let off = places_with-off rules never bits in
    never-off rules columns bits 0 None bits refl
    (subst (λ fs. AllByRecursion (MayStand rules columns bits) fs) (sym off) may) ∙ off

-- ---- the first place that differs

-- the place before a bit, where its codeblock is not sound
abbrev unsound : Last → Last
unsound last = record { end = last.end; before = last.before; sound = false }

unsound-inside : (at : ℕ) (last : Option Last) → is_inside at (option_map unsound last) ≡ is_inside at last
unsound-inside at None = refl
unsound-inside at (Some last) = refl

unsound-ends : (at : ℕ) (last : Option Last) → ends_at at (option_map unsound last) ≡ ends_at at last
unsound-ends at None = refl
unsound-ends at (Some last) = refl

-- outside of codeblocks it says the same
unsound-outside : (rules : Rules) (columns : Columns) (sound : Soundness) (at : ℕ) (last : Option Last)
    (bits : List Bool) → is_inside at last ≡ false
    → place_here rules (Some columns) never at (option_map unsound last) bits
    ≡ place_here rules (Some columns) sound at last bits
unsound-outside rules columns sound at last bits out =
    place_here-outside rules (Some columns) never at (option_map unsound last) bits (unsound-inside at last ∙ out)
    ∙ ap (λ before. place_outside rules (Some columns) bits (place_at rules at before bits)) (unsound-ends at last)
    ∙ sym (place_here-outside rules (Some columns) sound at last bits out)

-- the lists are the same, or differ first inside a place
abbrev Differ : Rules → Columns → Soundness → List Bool → List Found → List Found → Type 0
Differ rules columns sound whole found others = (found ≡ others) ⊎ DifferInside rules columns sound whole found others

differ-cons : (rules : Rules) (columns : Columns) (sound : Soundness) (whole : List Bool) (f : Found)
    (found others : List Found) → Differ rules columns sound whole found others
    → Differ rules columns sound whole (f ∷ found) (f ∷ others)
differ-cons rules columns sound whole f found others (inl same) = inl (ap (λ fs. f ∷ fs) same)
differ-cons rules columns sound whole f found others (inr it) = inr (record {
  same = f ∷ it.same;
  last = it.last;
  next = it.next;
  rest = it.rest;
  others_left = it.others_left;
  found_are = ap (λ fs. f ∷ fs) it.found_are;
  others_are = ap (λ fs. f ∷ fs) it.others_are;
  counts = it.counts;
  before = it.before;
})

differ-last : (rules : Rules) (columns : Columns) (sound : Soundness) (whole : List Bool) (prev : Option Found)
    (found others : List Found) → Differ rules columns sound whole found others
    → Differ rules columns sound whole (with_last prev found) (with_last prev others)
differ-last rules columns sound whole None found others it = it
differ-last rules columns sound whole (Some f) found others it =
    differ-cons rules columns sound whole f found others it

-- a place inside: only the first list has it
differ-here : (rules : Rules) (columns : Columns) (sound : Soundness) (whole : List Bool) (at : ℕ)
    (prev : Option Found) (last : Option Last) (bits : List Bool) (f : Found) (fs others : List Found)
    → IsLast rules sound at prev last → bits ≡ drop at whole → is_inside at last ≡ true
    → place_here rules (Some columns) sound at last bits ≡ Some f
    → AllByRecursion (λ g. at + 1 ≤ g.place) others
    → Differ rules columns sound whole (with_last prev (f ∷ fs)) (with_last prev others)
differ-here rules columns sound whole at None None bits f fs others is rest in_it e later = absurd (cc)
differ-here rules columns sound whole at None (Some last) bits f fs others is rest in_it e later = absurd is
differ-here rules columns sound whole at (Some p) None bits f fs others is rest in_it e later = absurd is
differ-here rules columns sound whole at (Some p) (Some last) bits f fs others is rest in_it e later =
    let within : at < last.end = grind (arith, nat_tests) in
    let place = place_here-place rules (Some columns) sound at (Some last) bits f e in
    let it = here-counts rules columns sound whole at p last bits f is rest e within in
    inr (record {
      same = [];
      last = p;
      next = f;
      rest = fs;
      others_left = others;
      found_are = refl;
      others_are = refl;
      counts = subst (λ n. CountsInside rules columns sound whole p n f.inverted) (sym place) it.1;
      before = all-after others later place;
    })
  where
    all-after : (fs : List Found) → AllByRecursion (λ g. at + 1 ≤ g.place) fs → f.place ≡ at
        → AllByRecursion (λ g. f.place < g.place) fs
    all-after [] all place = tt
    all-after (g ∷ fs) (first, all) place = (omega arith, all-after fs all place)

differ-from : (rules : Rules) (columns : Columns) (sound : Soundness) (whole : List Bool) (at : ℕ)
    (last : Option Last) (bits : List Bool) → bits ≡ drop at whole → (prev : Option Found)
    → IsLast rules sound at prev last
    → Differ rules columns sound whole (with_last prev (places_after rules (Some columns) sound at last bits))
    (with_last prev (places_after rules (Some columns) never at (option_map unsound last) bits))
differ-from rules columns sound whole =
    by_bits rules (Some columns) sound P
    (λ at last rest prev is. inl (ap (with_last prev)
    (sym (places_after-nil rules (Some columns) never at (option_map unsound last))))) miss one
  where
    Others : ℕ → Option Last → List Bool → List Found
    Others at last bits = places_after rules (Some columns) never at (option_map unsound last) bits

    P : OfPlaces
    P at last bits fs = bits ≡ drop at whole → (prev : Option Found) → IsLast rules sound at prev last
        → Differ rules columns sound whole (with_last prev fs) (with_last prev (Others at last bits))

    by : (prev : Option Found) (fs others others' : List Found) → others ≡ others'
        → Differ rules columns sound whole (with_last prev fs) (with_last prev others')
        → Differ rules columns sound whole (with_last prev fs) (with_last prev others)
    by prev fs others others' are it =
        subst (λ (gs : List Found). Differ rules columns sound whole (with_last prev fs) (with_last prev gs)) (sym are) it

    missed : (at : ℕ) (last : Option Last) (b : Bool) (bits : List Bool)
        → place_here rules (Some columns) never at (option_map unsound last) (b ∷ bits) ≡ None
        → Others at last (b ∷ bits) ≡ Others (at + 1) last bits
    missed at last b bits e = places_after-miss rules (Some columns) never at (option_map unsound last) b bits e

    inside : (at : ℕ) (last : Option Last) (bits : List Bool) → is_inside at last ≡ true
        → place_here rules (Some columns) never at (option_map unsound last) bits ≡ None
    inside at last bits in_it =
        none-never rules columns at (option_map unsound last) bits (unsound-inside at last ∙ in_it)

    miss : StaysAtNone rules (Some columns) sound P
    miss at last b bits fs e next rest prev is =
        by prev fs (Others at last (b ∷ bits)) (Others (at + 1) last bits)
        (missed at last b bits (none (cases_Bool (is_inside at last))))
        (next (rest-next b bits whole at rest) prev (last-next rules sound at prev last is))
      where
        none : (is_inside at last ≡ true) ⊎ (is_inside at last ≡ false)
            → place_here rules (Some columns) never at (option_map unsound last) (b ∷ bits) ≡ None
        none (inl in_it) = inside at last (b ∷ bits) in_it
        none (inr out) = unsound-outside rules columns sound at last (b ∷ bits) out ∙ e

    one : StaysAtOne rules (Some columns) sound P
    one at last b bits f fs e next rest prev is = go (cases_Bool (is_inside at last))
      where
        Next : List Found
        Next = Others (at + 1) (Some (last_at rules sound at last f)) bits

        last_is : last_at rules never at (option_map unsound last) f ≡ unsound (last_at rules sound at last f)
        last_is = λ i. record {
          end = at + 32 + rules.block_bits;
          before = before_next (unsound-ends at last i) f;
          sound = false;
        }

        go : (is_inside at last ≡ true) ⊎ (is_inside at last ≡ false)
            → Differ rules columns sound whole (with_last prev (f ∷ fs)) (with_last prev (Others at last (b ∷ bits)))
        go (inl in_it) =
            by prev (f ∷ fs) (Others at last (b ∷ bits)) (Others (at + 1) last bits)
            (missed at last b bits (inside at last (b ∷ bits) in_it))
            (differ-here rules columns sound whole at prev last (b ∷ bits) f fs (Others (at + 1) last bits) is rest in_it e
            (places_after-start rules (Some columns) never (at + 1) (option_map unsound last) bits))
        go (inr out) =
            by prev (f ∷ fs) (Others at last (b ∷ bits)) (f ∷ Next)
            (places_after-one rules (Some columns) never at (option_map unsound last) b bits f
            (unsound-outside rules columns sound at last (b ∷ bits) out ∙ e)
            ∙ ap (λ (l : Last). f ∷ places_after rules (Some columns) never (at + 1) (Some l) bits) last_is)
            (differ-last rules columns sound whole prev (f ∷ fs) (f ∷ Next)
            (next (rest-next b bits whole at rest) (Some f) (last-found rules sound at last f
            (place_here-place rules (Some columns) sound at last (b ∷ bits) f e))))

pub differ-all : (rules : Rules) (columns : Columns) (sound : Soundness) (bits : List Bool)
    → Differ rules columns sound bits (places_with rules (Some columns) sound bits)
    (places_with rules (Some columns) never bits)
differ-all rules columns sound bits = differ-from rules columns sound bits 0 None bits refl None tt

-- ---- where they are the same

all-last : (P : Found → Type 0) (prefix : List Found) (f : Found) (fs : List Found)
    → AllByRecursion P (prefix ++ (f ∷ fs)) → P f
all-last P [] f fs all = all.0
all-last P (g ∷ prefix) f fs all = all-last P prefix f fs all.1

pub same-none : (rules : Rules) (columns : Columns) (sound : Soundness) (bits : List Bool)
    → AllByRecursion (HasNoneInside rules columns sound bits) (places_with rules (Some columns) never bits)
    → places_with rules (Some columns) sound bits ≡ places_with rules (Some columns) never bits
same-none rules columns sound bits empty = elim (differ-all rules columns sound bits) [
  | inl same ↦ same
  | inr it ↦ absurd (all-last (HasNoneInside rules columns sound bits) it.same it.last it.others_left
      (subst (λ fs. AllByRecursion (HasNoneInside rules columns sound bits) fs) it.others_are empty)
      it.next.place it.next.inverted it.counts)
]

-- a marker that counts inside a place is the next one, or stands after it
abbrev Reached : ℕ → List Found → Type 0
Reached at [] = ⊥
Reached at (f ∷ fs) = f.place ≤ at

abbrev AreReached : Rules → Columns → Soundness → List Bool → List Found → Type 0
AreReached rules columns sound whole [] = Unit {0}
AreReached rules columns sound whole (f ∷ fs) =
    ((at : ℕ) (inverted : Bool) → CountsInside rules columns sound whole f at inverted → Reached at fs)
    × AreReached rules columns sound whole fs

reached-from : (rules : Rules) (columns : Columns) (sound : Soundness) (whole : List Bool) (at : ℕ)
    (last : Option Last) (bits : List Bool) → bits ≡ drop at whole → (prev : Option Found)
    → IsLast rules sound at prev last
    → ((f : Found) → prev ≡ Some f → (p : ℕ) (inverted : Bool) → at ≤ p
    → CountsInside rules columns sound whole f p inverted
    → Reached p (places_after rules (Some columns) sound at last bits))
    × AreReached rules columns sound whole (places_after rules (Some columns) sound at last bits)
reached-from rules columns sound whole = by_bits rules (Some columns) sound P none_left miss one
  where
    P : OfPlaces
    P at last bits fs = bits ≡ drop at whole → (prev : Option Found) → IsLast rules sound at prev last
        → ((f : Found) → prev ≡ Some f → (p : ℕ) (inverted : Bool) → at ≤ p
        → CountsInside rules columns sound whole f p inverted → Reached p fs)
        × AreReached rules columns sound whole fs

    none_left : (at : ℕ) (last : Option Last) → P at last [] []
    none_left at last rest prev is =
        (λ f same p inverted from counts. rest-some whole at p rules.block_bits rest from counts.room, tt)

    miss : StaysAtNone rules (Some columns) sound P
    miss at last b bits fs e next rest prev is =
        let later = next (rest-next b bits whole at rest) prev (last-next rules sound at prev last is) in (
          λ f same p inverted from counts. elim (cases_lt at p) [
            | inl below ↦ later.0 f same p inverted (omega arith) counts
            | inr not_below ↦ absurd (no f p inverted (omega arith) counts last
                (subst (λ prev. IsLast rules sound at prev last) same is) e)
          ],
          later.1,
        )
      where
        no : (f : Found) (p : ℕ) (inverted : Bool) → p ≡ at → CountsInside rules columns sound whole f p inverted
            → (last : Option Last) → IsLast rules sound at (Some f) last
            → place_here rules (Some columns) sound at last (b ∷ bits) ≡ None → ⊥
        no f p inverted same counts None is e = is
        no f p inverted same counts (Some last) is e =
            let some = counts-here rules columns sound whole at f last (b ∷ bits) inverted is rest
            (subst (λ n. CountsInside rules columns sound whole f n inverted) same counts) in
            let not : None ≡ Some (found_at at false inverted (b ∷ bits)) = sym e ∙ some in absurd (cc)

    one : StaysAtOne rules (Some columns) sound P
    one at last b bits f fs e next rest prev is =
        let place = place_here-place rules (Some columns) sound at last (b ∷ bits) f e in
        let later = next (rest-next b bits whole at rest) (Some f) (last-found rules sound at last f place) in (
          λ g same p inverted from counts. omega arith,
          (λ p inverted counts. later.0 f refl p inverted (omega (arith, counts.after)) counts, later.1),
        )

-- none stands inside another if none is sound
none-reached : (rules : Rules) (columns : Columns) (sound : Soundness) (bits : List Bool) (fs : List Found)
    → AreReached rules columns sound bits fs → AreInOrder rules columns never bits fs
    → AllByRecursion (HasNoneInside rules columns sound bits) fs
none-reached rules columns sound bits [] reached order = tt
none-reached rules columns sound bits (f ∷ []) reached order = (λ at inverted counts. reached.0 at inverted counts, tt)
none-reached rules columns sound bits (f ∷ g ∷ fs) reached order = (
  λ at inverted counts. elim (cases_lt g.place (end_of rules f)) [
    | inl within ↦ let own : false ≡ true = (order.1 within).1.is_sound in absurd (cc)
    | inr past ↦ let before = reached.0 at inverted counts in omega (arith, counts.before)
  ],
  none-reached rules columns sound bits (g ∷ fs) reached.1 order.2,
)

pub none-same : (rules : Rules) (columns : Columns) (sound : Soundness) (bits : List Bool)
    → places_with rules (Some columns) sound bits ≡ places_with rules (Some columns) never bits
    → AllByRecursion (HasNoneInside rules columns sound bits) (places_with rules (Some columns) never bits)
none-same rules columns sound bits same =
    none-reached rules columns sound bits (places_with rules (Some columns) never bits)
    (subst (λ fs. AreReached rules columns sound bits fs) same
    (reached-from rules columns sound bits 0 None bits refl None tt).1) (order-all rules columns never bits)
