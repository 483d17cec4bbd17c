-- What is found where places are looked for inside codeblocks too, and in which order.
use Rattle.std.proofs.Common.{◌≡◌, ℕ, suc, ◌+◌, ◌-◌, ◌<◌, ◌≤◌, Bool, true, false, cond, not, ◌&&◌, ◌||◌, nat_le, List, [], ◌∷◌, length, drop, refl, sym, ap, ◌∙◌, subst, arith, Option, Some, None, is_none, length-drop, ◌⊎◌, inl, inr}
use Rattle.std.specs.List.{Any, IsAmong}
use Rattle.std.specs.Option.{MatchOption}
use Rattle.std.proofs.lemmas.List.{drop-drop}
use Rattle.std.proofs.lemmas.Bool.{cases_Bool, cases_lt}
use Rattle.std.proofs.lemmas.Bool.Decides.{nat_tests}
use Rattle.tm_sync.specs.declared.found.Found.{Found}
use Rattle.tm_sync.specs.declared.found.Columns.{Columns}
use Rattle.tm_sync.specs.Places.{Rules, match_of, place_by, found_at}
use Rattle.tm_sync.specs.Rescan.{Soundness, Last, reach, ends_at, is_inside, is_open, sound_place, place_outside, place_here, last_at, places_after, places_with}
use Rattle.tm_sync.specs.PlacesInside.{end_of, CountsInside, Hides, AreInOrder, AreApart}
use Rattle.tm_sync.proofs.Steps.{place_at-room, place_polarity-zero}
use Rattle.tm_sync.proofs.Rescanned.{OfPlaces, StaysAtNone, StaysAtOne, by_bits, place_here-inside, place_here-outside}
use Rattle.tm_sync.proofs.Prefixes.{inside-room, place_here-place, place_here-room}

-- ---- the place before a bit

-- it comes before the places that follow
abbrev pub with_last : Option Found → List Found → List Found
with_last None fs = fs
with_last (Some f) fs = f ∷ fs

-- it is what is kept of it
abbrev pub IsLast : Rules → Soundness → ℕ → Option Found → Option Last → Type 0
IsLast rules sound at None None = Unit {0}
IsLast rules sound at (Some f) (Some last) =
    (f.place < at) × ((last.end ≡ end_of rules f) × (last.sound ≡ sound f.place f.inverted))
IsLast rules sound at None (Some last) = ⊥
IsLast rules sound at (Some f) None = ⊥

pub last-next : (rules : Rules) (sound : Soundness) (at : ℕ) (prev : Option Found) (last : Option Last)
    → IsLast rules sound at prev last → IsLast rules sound (at + 1) prev last
last-next rules sound at None None is = tt
last-next rules sound at None (Some last) is = absurd is
last-next rules sound at (Some f) None is = absurd is
last-next rules sound at (Some f) (Some last) is = let before = is.0 in (omega arith, is.1)

pub last-found : (rules : Rules) (sound : Soundness) (at : ℕ) (last : Option Last) (f : Found) → f.place ≡ at
    → IsLast rules sound (at + 1) (Some f) (Some (last_at rules sound at last f))
last-found rules sound at last f is = (omega arith, (omega arith, ap (λ n. sound n f.inverted) (sym is)))

-- ---- the bits from a bit on

pub rest-next : (b : Bool) (bits whole : List Bool) (at : ℕ) → (b ∷ bits) ≡ drop at whole → bits ≡ drop (at + 1) whole
rest-next b bits whole at rest = ap (drop 1) rest ∙ drop-drop 1 at whole ∙ ap (λ n. drop n whole) (omega arith)

rest-long : (bits whole : List Bool) (at n : ℕ) → bits ≡ drop at whole → n + at ≤ length whole → n ≤ length bits
rest-long bits whole at n rest long =
    let size : length bits ≡ length whole - at = ap length rest ∙ length-drop at whole in omega arith

rest-after : (bits whole : List Bool) (at end : ℕ) → bits ≡ drop at whole → at ≤ end
    → drop (end - at) bits ≡ drop end whole
rest-after bits whole at end rest le =
    ap (drop (end - at)) rest ∙ drop-drop (end - at) at whole ∙ ap (λ n. drop n whole) (omega arith)

pub rest-some : (whole : List Bool) (at p n : ℕ) → [] ≡ drop at whole → at ≤ p → p + 32 + n ≤ length whole → ⊥
rest-some whole at p n rest le long =
    let few = rest-long [] whole at (32 + n) rest (omega arith) in omega arith

-- ---- what counts inside a place

-- it is a place
pub counts-here : (rules : Rules) (columns : Columns) (sound : Soundness) (whole : List Bool) (at : ℕ) (f : Found)
    (last : Last) (bits : List Bool) (inverted : Bool) → IsLast rules sound at (Some f) (Some last)
    → bits ≡ drop at whole → CountsInside rules columns sound whole f at inverted
    → place_here rules (Some columns) sound at (Some last) bits ≡ Some (found_at at false inverted bits)
counts-here rules columns sound whole at f last bits inverted is rest counts =
    place_here-inside rules (Some columns) sound at (Some last) bits (grind (arith, nat_tests, within))
    ∙ inside-room rules columns sound at last bits
    (rest-long bits whole at (32 + rules.block_bits) rest (omega (arith, counts.room)))
    ∙ ap (λ c. cond c (sound_place sound at bits (match_of rules bits)) None) (by counts.is_open)
    ∙ ap (sound_place sound at bits) (ap (match_of rules) rest ∙ counts.matches)
    ∙ ap (λ c. cond c (Some (found_at at false inverted bits)) None) counts.is_sound
  where
    within : at < last.end
    within = omega (arith, counts.before, is.1.0)

    or-true : (c : Bool) → (c || true) ≡ true
    or-true true = refl
    or-true false = refl

    by : (sound f.place f.inverted ≡ false) ⊎ ((end_of rules f ≤ at + reach columns)
        × (match_of rules (drop (end_of rules f) whole) ≡ None)) → is_open rules columns at last bits ≡ true
    by (inl says) =
        ap (λ c. not c || (nat_le last.end (at + reach columns)
        && is_none (match_of rules (drop (last.end - at) bits)))) (is.1.1 ∙ says)
    by (inr (late, unmatched)) =
        let end : last.end ≡ end_of rules f = is.1.0 in
        let test : nat_le last.end (at + reach columns) ≡ true = grind (arith, nat_tests) in
        let behind : match_of rules (drop (last.end - at) bits) ≡ None =
        ap (match_of rules) (rest-after bits whole at last.end rest (omega (arith, within)) ∙ ap (λ n. drop n whole) end)
        ∙ unmatched in
        (λ i. not last.sound || (test i && is_none (behind i))) ∙ or-true (not last.sound)

-- a marker inside a place, with a sound codeblock of its own, counts there or is hidden
counts-or-hidden : (rules : Rules) (columns : Columns) (sound : Soundness) (whole : List Bool) (at : ℕ) (f : Found)
    (inverted : Bool) → f.place < at → at < end_of rules f → at + 32 + rules.block_bits ≤ length whole
    → match_of rules (drop at whole) ≡ Some inverted → sound at inverted ≡ true
    → CountsInside rules columns sound whole f at inverted ⊎ Hides rules columns sound whole at f
counts-or-hidden rules columns sound whole at f inverted after before room match own =
    by (cases_Bool (sound f.place f.inverted))
  where
    counts : (sound f.place f.inverted ≡ false) ⊎ ((end_of rules f ≤ at + reach columns)
        × (match_of rules (drop (end_of rules f) whole) ≡ None)) → CountsInside rules columns sound whole f at inverted
    counts why = record {
      after = after;
      before = before;
      room = room;
      matches = match;
      is_sound = own;
      is_open = why;
    }

    late_by : (behind : Option Bool) → match_of rules (drop (end_of rules f) whole) ≡ behind
        → end_of rules f ≤ at + reach columns → sound f.place f.inverted ≡ true
        → CountsInside rules columns sound whole f at inverted ⊎ Hides rules columns sound whole at f
    late_by None unmatched late says = inl (counts (inr (late, unmatched)))
    late_by (Some other) matched late says =
        inr (after, before, says, inr (ap (λ (o : Option Bool). is_none o) matched))

    by : (sound f.place f.inverted ≡ true) ⊎ (sound f.place f.inverted ≡ false)
        → CountsInside rules columns sound whole f at inverted ⊎ Hides rules columns sound whole at f
    by (inr says) = inl (counts (inl says))
    by (inl says) = elim (cases_lt (at + reach columns) (end_of rules f)) [
      | inl early ↦ inr (after, before, says, inl early)
      | inr late ↦ late_by (match_of rules (drop (end_of rules f) whole)) refl late says
    ]

-- a place inside another one counts there
pub here-counts : (rules : Rules) (columns : Columns) (sound : Soundness) (whole : List Bool) (at : ℕ) (f : Found)
    (last : Last) (bits : List Bool) (g : Found) → IsLast rules sound at (Some f) (Some last) → bits ≡ drop at whole
    → place_here rules (Some columns) sound at (Some last) bits ≡ Some g → at < last.end
    → (g.bridged ≡ false) × CountsInside rules columns sound whole f at g.inverted
here-counts rules columns sound whole at f last bits g is rest e within =
    go (is_open rules columns at last bits) (match_of rules bits) refl refl
    (sym (inside-room rules columns sound at last bits room)
    ∙ sym (place_here-inside rules (Some columns) sound at (Some last) bits (grind (arith, nat_tests, within))) ∙ e)
  where
    room : 32 + rules.block_bits ≤ length bits
    room = place_here-room rules (Some columns) sound at (Some last) bits g e

    whole_room : at + 32 + rules.block_bits ≤ length whole
    whole_room =
        let size : length bits ≡ length whole - at = ap length rest ∙ length-drop at whole in omega (arith, room)

    bools : (s late none : Bool) → (not s || (late && none)) ≡ true → (s ≡ false) ⊎ ((late ≡ true) × (none ≡ true))
    bools false late none e = inl refl
    bools true true true e = inr (refl, refl)
    bools true true false e = absurd (cc)
    bools true false none e = absurd (cc)

    unmatched : (o : Option Bool) → is_none o ≡ true → o ≡ None
    unmatched None e = refl
    unmatched (Some inverted) e = absurd (cc)

    why : is_open rules columns at last bits ≡ true
        → (sound f.place f.inverted ≡ false) ⊎ ((end_of rules f ≤ at + reach columns)
        × (match_of rules (drop (end_of rules f) whole) ≡ None))
    why e = elim (bools last.sound (nat_le last.end (at + reach columns))
        (is_none (match_of rules (drop (last.end - at) bits))) e) [
          | inl says ↦ inl (sym is.1.1 ∙ says)
          | inr late ↦
              let end : last.end ≡ end_of rules f = is.1.0 in
              let test : nat_le last.end (at + reach columns) ≡ true = late.0 in
              let le : last.end ≤ at + reach columns = grind (arith, nat_tests) in
              inr (
                omega arith,
                ap (match_of rules) (sym (rest-after bits whole at last.end rest (omega (arith, within))
                    ∙ ap (λ n. drop n whole) end)) ∙ unmatched (match_of rules (drop (last.end - at) bits)) late.1,
              )
        ]

    go : (c : Bool) (polarity : Option Bool) → is_open rules columns at last bits ≡ c
        → match_of rules bits ≡ polarity → cond c (sound_place sound at bits polarity) None ≡ Some g
        → (g.bridged ≡ false) × CountsInside rules columns sound whole f at g.inverted
    go false polarity c_is match e = absurd (cc)
    go true None c_is match e = absurd (cc)
    go true (Some inverted) c_is match e = own_by (sound at inverted) refl e
      where
        own_by : (s : Bool) → sound at inverted ≡ s → cond s (Some (found_at at false inverted bits)) None ≡ Some g
            → (g.bridged ≡ false) × CountsInside rules columns sound whole f at g.inverted
        own_by false own e = absurd (cc)
        own_by true own e =
            let same : found_at at false inverted bits ≡ g = cc in
            subst (λ (g : Found). (g.bridged ≡ false) × CountsInside rules columns sound whole f at g.inverted) same (
              refl,
              record {
                after = is.0;
                before = omega (arith, within, is.1.0);
                room = whole_room;
                matches = ap (match_of rules) (sym rest) ∙ match;
                is_sound = own;
                is_open = why c_is;
              },
            )

-- ---- a marker whose codeblock is sound

any-later : {P : Found → Type 0} (f : Found) (fs : List Found) → Any P fs → Any P (f ∷ fs)
any-later f fs (k, g, below, is, holds) = (suc k, g, omega arith, is, holds)

any-last : {P : Found → Type 0} (prev : Option Found) (fs : List Found) → MatchOption prev ⊥ P
    → Any P (with_last prev fs)
any-last None fs holds = absurd holds
any-last (Some f) fs holds = (0, f, omega arith, refl, holds)

any-after : {P : Found → Type 0} (prev : Option Found) (fs : List Found) → Any P fs → Any P (with_last prev fs)
any-after None fs some = some
any-after (Some f) fs some = any-later f fs some

among-later : (f g : Found) (fs : List Found) → IsAmong fs g → IsAmong (f ∷ fs) g
among-later f g fs (k, (below, is)) = (suc k, (omega arith, is))

-- where such a marker matches at the next bit
here-or-hidden : (rules : Rules) (columns : Columns) (sound : Soundness) (whole : List Bool) (at : ℕ)
    (prev : Option Found) (last : Option Last) (bits : List Bool) (inverted : Bool) → rules.verify ≡ 0
    → IsLast rules sound at prev last → bits ≡ drop at whole → at + 32 + rules.block_bits ≤ length whole
    → match_of rules (drop at whole) ≡ Some inverted → sound at inverted ≡ true
    → (place_here rules (Some columns) sound at last bits ≡ Some (found_at at false inverted bits))
    ⊎ MatchOption prev ⊥ (Hides rules columns sound whole at)
here-or-hidden rules columns sound whole at prev last bits inverted alone is rest room match own =
    go prev last is (cases_Bool (is_inside at last))
  where
    outside : (last : Option Last) → is_inside at last ≡ false
        → place_here rules (Some columns) sound at last bits ≡ Some (found_at at false inverted bits)
    outside last out =
        place_here-outside rules (Some columns) sound at last bits out
        ∙ ap (place_outside rules (Some columns) bits)
        (place_at-room rules at (ends_at at last) bits
        (rest-long bits whole at (32 + rules.block_bits) rest (omega arith))
        ∙ ap (place_by rules at (ends_at at last) bits)
        (place_polarity-zero rules (ends_at at last) bits alone ∙ ap (match_of rules) rest ∙ match))

    go : (prev : Option Found) (last : Option Last) → IsLast rules sound at prev last
        → (is_inside at last ≡ true) ⊎ (is_inside at last ≡ false)
        → (place_here rules (Some columns) sound at last bits ≡ Some (found_at at false inverted bits))
        ⊎ MatchOption prev ⊥ (Hides rules columns sound whole at)
    go prev last is (inr out) = inl (outside last out)
    go None None is (inl in_it) = absurd (cc)
    go None (Some last) is (inl in_it) = absurd is
    go (Some f) None is (inl in_it) = absurd is
    go (Some f) (Some last) is (inl in_it) =
        let within : at < last.end = grind (arith, nat_tests) in
        elim (counts-or-hidden rules columns sound whole at f inverted is.0 (omega (arith, is.1.0)) room match own) [
          | inl counts ↦ inl (counts-here rules columns sound whole at f last bits inverted is rest counts)
          | inr hides ↦ inr hides
        ]

pub found-from : (rules : Rules) (columns : Columns) (sound : Soundness) (whole : List Bool) (p : ℕ)
    (inverted : Bool) → rules.verify ≡ 0 → p + 32 + rules.block_bits ≤ length whole
    → match_of rules (drop p whole) ≡ Some inverted → sound p inverted ≡ true
    → (at : ℕ) (last : Option Last) (bits : List Bool) → bits ≡ drop at whole → at ≤ p
    → (prev : Option Found) → IsLast rules sound at prev last
    → IsAmong (places_after rules (Some columns) sound at last bits) (found_at p false inverted (drop p whole))
    ⊎ Any (Hides rules columns sound whole p) (with_last prev (places_after rules (Some columns) sound at last bits))
found-from rules columns sound whole p inverted alone room match own =
    by_bits rules (Some columns) sound P
    (λ at last rest from prev is. absurd (rest-some whole at p rules.block_bits rest from room)) miss one
  where
    It : Found
    It = found_at p false inverted (drop p whole)

    P : OfPlaces
    P at last bits fs = bits ≡ drop at whole → at ≤ p → (prev : Option Found) → IsLast rules sound at prev last
        → IsAmong fs It ⊎ Any (Hides rules columns sound whole p) (with_last prev fs)

    -- at the bit itself
    here : (at : ℕ) (last : Option Last) (bits : List Bool) → bits ≡ drop at whole → at ≡ p → (prev : Option Found)
        → IsLast rules sound at prev last
        → (place_here rules (Some columns) sound at last bits ≡ Some It)
        ⊎ MatchOption prev ⊥ (Hides rules columns sound whole p)
    here at last bits rest same prev is =
        let is_p = subst (λ n. IsLast rules sound n prev last) same is in
        let rest_p = rest ∙ ap (λ n. drop n whole) same in
        elim (here-or-hidden rules columns sound whole p prev last bits inverted alone is_p rest_p room match own) [
          | inl e ↦ inl (ap (λ n. place_here rules (Some columns) sound n last bits) same ∙ e
              ∙ ap (λ (l : List Bool). Some (found_at p false inverted l)) rest_p)
          | inr hides ↦ inr hides
        ]

    miss : StaysAtNone rules (Some columns) sound P
    miss at last b bits fs e next rest from prev is = elim (cases_lt at p) [
      | inl below ↦ next (rest-next b bits whole at rest) (omega arith) prev (last-next rules sound at prev last is)
      | inr not_below ↦ elim (here at last (b ∷ bits) rest (omega arith) prev is) [
        | inl some ↦ absurd (let no : None ≡ Some It = sym e ∙ some in cc)
        | inr hides ↦ inr (any-last prev fs hides)
      ]
    ]

    one : StaysAtOne rules (Some columns) sound P
    one at last b bits f fs e next rest from prev is = elim (cases_lt at p) [
      | inl below ↦
          let place = place_here-place rules (Some columns) sound at last (b ∷ bits) f e in
          elim (next (rest-next b bits whole at rest) (omega arith) (Some f) (last-found rules sound at last f place)) [
            | inl it ↦ inl (among-later f It fs it)
            | inr hides ↦ inr (any-after prev (f ∷ fs) hides)
          ]
      | inr not_below ↦ elim (here at last (b ∷ bits) rest (omega arith) prev is) [
        | inl some ↦
            let same : It ≡ f = let both : Some It ≡ Some f = sym some ∙ e in cc in
            inl (0, (omega arith, same))
        | inr hides ↦ inr (any-last prev (f ∷ fs) hides)
      ]
    ]

pub found-all : (rules : Rules) (columns : Columns) (sound : Soundness) (bits : List Bool) (p : ℕ) (inverted : Bool)
    → rules.verify ≡ 0 → p + 32 + rules.block_bits ≤ length bits → match_of rules (drop p bits) ≡ Some inverted
    → sound p inverted ≡ true
    → IsAmong (places_with rules (Some columns) sound bits) (found_at p false inverted (drop p bits))
    ⊎ Any (Hides rules columns sound bits p) (places_with rules (Some columns) sound bits)
found-all rules columns sound bits p inverted alone room match own =
    found-from rules columns sound bits p inverted alone room match own 0 None bits refl (omega arith) None tt

-- ---- the order of places

order-with : (rules : Rules) (columns : Columns) (sound : Soundness) (whole : List Bool) (at : ℕ) (last : Option Last)
    (bits : List Bool) → bits ≡ drop at whole → (prev : Option Found) → IsLast rules sound at prev last
    → AreInOrder rules columns sound whole (with_last prev (places_after rules (Some columns) sound at last bits))
order-with rules columns sound whole = by_bits rules (Some columns) sound P none miss one
  where
    P : OfPlaces
    P at last bits fs = bits ≡ drop at whole → (prev : Option Found) → IsLast rules sound at prev last
        → AreInOrder rules columns sound whole (with_last prev fs)

    none : (at : ℕ) (last : Option Last) → P at last [] []
    none at last rest None is = tt
    none at last rest (Some f) is = tt

    miss : StaysAtNone rules (Some columns) sound P
    miss at last b bits fs e next rest prev is =
        next (rest-next b bits whole at rest) prev (last-next rules sound at prev last is)

    one : StaysAtOne rules (Some columns) sound P
    one at last b bits f fs e next rest prev is =
        put prev last is e
        (next (rest-next b bits whole at rest) (Some f) (last-found rules sound at last f place))
      where
        place : f.place ≡ at
        place = place_here-place rules (Some columns) sound at last (b ∷ bits) f e

        put : (prev : Option Found) (last : Option Last) → IsLast rules sound at prev last
            → place_here rules (Some columns) sound at last (b ∷ bits) ≡ Some f
            → AreInOrder rules columns sound whole (f ∷ fs)
            → AreInOrder rules columns sound whole (with_last prev (f ∷ fs))
        put None last is e order = order
        put (Some p) None is e order = absurd is
        put (Some p) (Some last) is e order = (
          omega (arith, is.0, place),
          λ before.
              let it = here-counts rules columns sound whole at p last (b ∷ bits) f is rest e
              (omega (arith, is.1.0, place)) in
              (it.0, subst (λ n. CountsInside rules columns sound whole p n f.inverted) (sym place) it.1),
          order,
        )

pub order-all : (rules : Rules) (columns : Columns) (sound : Soundness) (bits : List Bool)
    → AreInOrder rules columns sound bits (places_with rules (Some columns) sound bits)
order-all rules columns sound bits = order-with rules columns sound bits 0 None bits refl None tt

-- two codeblocks of three in a row lie in the room of one at most, less the last symbols
apart-ordered : (rules : Rules) (columns : Columns) (sound : Soundness) (bits : List Bool) (fs : List Found)
    → AreInOrder rules columns sound bits fs → AreApart (32 + rules.block_bits - reach columns) fs
apart-ordered rules columns sound bits [] order = tt
apart-ordered rules columns sound bits (f ∷ []) order = tt
apart-ordered rules columns sound bits (f ∷ g ∷ []) order = tt
apart-ordered rules columns sound bits (f ∷ g ∷ h ∷ fs) (f_g, g_inside, (g_h, h_inside, order)) = (
  elim (cases_lt g.place (end_of rules f)) [
    | inr past ↦ omega arith
    | inl within ↦ elim (cases_lt h.place (end_of rules g)) [
      | inr past ↦ omega arith
      | inl inside ↦ elim ((h_inside inside).1.is_open) [
        | inl not_sound ↦ absurd (let own : sound g.place g.inverted ≡ true = (g_inside within).1.is_sound in
            let no : true ≡ false = sym own ∙ not_sound in cc)
        | inr late ↦ let le : end_of rules g ≤ h.place + reach columns = late.0 in omega arith
      ]
    ]
  ],
  apart-ordered rules columns sound bits (g ∷ h ∷ fs) (g_h, h_inside, order),
)

pub apart-all : (rules : Rules) (columns : Columns) (sound : Soundness) (bits : List Bool)
    → AreApart (32 + rules.block_bits - reach columns) (places_with rules (Some columns) sound bits)
apart-all rules columns sound bits =
    apart-ordered rules columns sound bits (places_with rules (Some columns) sound bits)
    (order-all rules columns sound bits)
