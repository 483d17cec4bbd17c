-- The places of a list that goes on, where places are looked for inside codeblocks too.
use Rattle.std.proofs.Common.{◌≡◌, ℕ, zero, suc, ◌+◌, ◌-◌, ◌*◌, ◌<◌, ◌≤◌, Bool, true, false, cond, if◌then◌else◌, not, ◌==◌, ◌&&◌, ◌||◌, nat_le, nat_lt, List, [], ◌∷◌, ◌++◌, length, drop, refl, sym, ap, ◌∙◌, subst, arith, Option, Some, None, is_none, length-append, length-drop, ◌⊎◌, inl, inr}
use Rattle.std.specs.List.{AllByRecursion, list_all, range_with_len}
use Rattle.std.proofs.lemmas.List.{drop-append-le}
use Rattle.std.proofs.lemmas.Bool.{cases_Bool, cases_lt}
use Rattle.std.proofs.lemmas.Bool.Decides.{nat_tests}
use Rattle.tm_sync.specs.declared.found.Found.{Found}
use Rattle.tm_sync.specs.declared.found.Before.{Before}
use Rattle.tm_sync.specs.Bits.{flip}
use Rattle.tm_sync.specs.Places.{Rules, match_of, found_at, place_at, settled_by, before_next}
use Rattle.tm_sync.specs.declared.found.Columns.{Columns}
use Rattle.tm_sync.specs.Rescan.{Fits, Soundness, Last, reach, ends_at, is_inside, is_open, may_bridge, sound_place, place_outside, place_inside, place_here, last_at, places_after, places_with}
use Rattle.tm_sync.proofs.Steps.{match_of-append, wrong_bits-append, place_at-short, place_at-unsettled, settled-room}
use Rattle.tm_sync.proofs.Longer.{Seen, none, some, seen, AreAfter, later, past-of, past-same, room_of, EndBefore, place_at-append, place_at-stands}
use Rattle.tm_sync.proofs.Rescanned.{OfPlaces, StaysAtNone, StaysAtOne, by_bits, places_after-nil, places_after-miss, places_after-one, place_here-inside, place_here-outside}

-- ---- bits that come after change nothing

pub all-same : (p q : ℕ → Bool) (from n : ℕ) → ((k : ℕ) → k < from + n → p k ≡ q k)
    → list_all p (range_with_len from n) ≡ list_all q (range_with_len from n)
all-same p q from zero same = refl
all-same p q from (suc n) same =
    (λ i. same from (omega arith) i && all-same p q (from + 1) n (λ k below. same k (omega arith)) i)

pub match-later : (rules : Rules) (n : ℕ) (bits more : List Bool) → n + 32 ≤ length bits
    → match_of rules (drop n (bits ++ more)) ≡ match_of rules (drop n bits)
match-later rules n bits more long =
    ap (match_of rules) (drop-append-le n bits more (omega arith))
    ∙ match_of-append rules (drop n bits) more (omega (arith, length-drop n bits))

may_bridge-append : (rules : Rules) (columns : Columns) (inverted : Bool) (bits more : List Bool)
    → reach columns + 32 ≤ length bits
    → may_bridge rules columns inverted (bits ++ more) ≡ may_bridge rules columns inverted bits
may_bridge-append rules columns inverted bits more long =
    let near = wrong_bits-append (flip inverted) bits more (omega arith) in
    let each : (k : ℕ) → k < 1 + columns.strength
    → is_none (match_of rules (drop (columns.stride * k) (bits ++ more)))
    ≡ is_none (match_of rules (drop (columns.stride * k) bits)) =
    λ k below. let less : columns.stride * k ≤ columns.stride * columns.strength =
    ordered columns.stride k columns.strength (omega arith) in ap (λ (o : Option Bool). is_none o) (match-later rules (columns.stride * k) bits more (omega arith)) in
    (λ i. nat_lt 8 (near i) && all-same _ _ 1 columns.strength each i)
  where
    ordered : (a b c : ℕ) → b ≤ c → a * b ≤ a * c
    ordered zero b c le = omega arith
    ordered (suc a) b c le = let less = ordered a b c le in omega arith

place_outside-append : (rules : Rules) (columns : Option Columns) (bits more : List Bool) (place : Option Found)
    → Fits rules columns → 32 + rules.block_bits ≤ length bits
    → place_outside rules columns (bits ++ more) place ≡ place_outside rules columns bits place
place_outside-append rules None bits more place fits room = refl
place_outside-append rules (Some columns) bits more None fits room = refl
place_outside-append rules (Some columns) bits more (Some f) fits room =
    ap (λ may. cond (f.bridged && not may) None (Some f))
    (may_bridge-append rules columns f.inverted bits more (omega arith))

is_open-append : (rules : Rules) (columns : Columns) (at : ℕ) (last : Last) (bits more : List Bool)
    → reach columns ≤ rules.block_bits → 32 + rules.block_bits ≤ length bits
    → is_open rules columns at last (bits ++ more) ≡ is_open rules columns at last bits
is_open-append rules columns at last bits more fits room = go (cases_lt (at + reach columns) last.end)
  where
    go : (at + reach columns < last.end) ⊎ (last.end ≤ at + reach columns)
        → is_open rules columns at last (bits ++ more) ≡ is_open rules columns at last bits
    go (inl early) =
        let test : nat_le last.end (at + reach columns) ≡ false = grind (arith, nat_tests) in
        ap (λ c. not last.sound || (c && is_none (match_of rules (drop (last.end - at) (bits ++ more))))) test
        ∙ ap (λ c. not last.sound || (c && is_none (match_of rules (drop (last.end - at) bits)))) (sym test)
    go (inr late) =
        ap (λ (o : Option Bool). not last.sound || (nat_le last.end (at + reach columns) && is_none o))
        (match-later rules (last.end - at) bits more (omega arith))

sound_place-append : (sound : Soundness) (at : ℕ) (bits more : List Bool) (polarity : Option Bool) → 32 ≤ length bits
    → sound_place sound at (bits ++ more) polarity ≡ sound_place sound at bits polarity
sound_place-append sound at bits more None long = refl
sound_place-append sound at bits more (Some inverted) long =
    λ i. cond (sound at inverted) (Some (record {
      place = at;
      distance = wrong_bits-append inverted bits more long i;
      bridged = false;
      inverted = inverted;
    })) None

-- a place inside needs room
pub inside-room : (rules : Rules) (columns : Columns) (sound : Soundness) (at : ℕ) (last : Last) (bits : List Bool)
    → 32 + rules.block_bits ≤ length bits
    → place_inside rules (Some columns) sound at (Some last) bits
    ≡ cond (is_open rules columns at last bits) (sound_place sound at bits (match_of rules bits)) None
inside-room rules columns sound at last bits room =
    let test : nat_le (32 + rules.block_bits) (length bits) ≡ true = grind (arith, nat_tests) in
    ap (λ c. cond (c && is_open rules columns at last bits) (sound_place sound at bits (match_of rules bits)) None) test

pub inside-short : (rules : Rules) (columns : Option Columns) (sound : Soundness) (at : ℕ) (last : Option Last)
    (bits : List Bool) → length bits < 32 + rules.block_bits → place_inside rules columns sound at last bits ≡ None
inside-short rules None sound at last bits short = refl
inside-short rules (Some columns) sound at None bits short = refl
inside-short rules (Some columns) sound at (Some last) bits short =
    let test : nat_le (32 + rules.block_bits) (length bits) ≡ false = grind (arith, nat_tests) in
    ap (λ c. cond (c && is_open rules columns at last bits) (sound_place sound at bits (match_of rules bits)) None) test

place_inside-append : (rules : Rules) (columns : Option Columns) (sound : Soundness) (at : ℕ) (last : Option Last)
    (bits more : List Bool) → Fits rules columns → 32 + rules.block_bits ≤ length bits
    → place_inside rules columns sound at last (bits ++ more) ≡ place_inside rules columns sound at last bits
place_inside-append rules None sound at last bits more fits room = refl
place_inside-append rules (Some columns) sound at None bits more fits room = refl
place_inside-append rules (Some columns) sound at (Some last) bits more fits room =
    inside-room rules columns sound at last (bits ++ more) (omega (arith, length-append bits more))
    ∙ ap (λ c. cond c (sound_place sound at (bits ++ more) (match_of rules (bits ++ more))) None)
    (is_open-append rules columns at last bits more fits room)
    ∙ ap (λ o. cond (is_open rules columns at last bits) (sound_place sound at (bits ++ more) o) None)
    (match_of-append rules bits more (omega arith))
    ∙ ap (λ o. cond (is_open rules columns at last bits) o None)
    (sound_place-append sound at bits more (match_of rules bits) (omega arith))
    ∙ sym (inside-room rules columns sound at last bits room)

-- the bits that settle whether a place stands at their start
abbrev pub room_at : Rules → ℕ → Option Last → ℕ
room_at rules at last = if is_inside at last then 32 + rules.block_bits else room_of rules (ends_at at last)

room-inside : (rules : Rules) (at : ℕ) (last : Option Last) → is_inside at last ≡ true
    → room_at rules at last ≡ 32 + rules.block_bits
room-inside rules at last e = ap (λ c. cond c (32 + rules.block_bits) (room_of rules (ends_at at last))) e

room-outside : (rules : Rules) (at : ℕ) (last : Option Last) → is_inside at last ≡ false
    → room_at rules at last ≡ room_of rules (ends_at at last)
room-outside rules at last e = ap (λ c. cond c (32 + rules.block_bits) (room_of rules (ends_at at last))) e

room_of-least : (rules : Rules) (before : Option Before) → 32 + rules.block_bits ≤ room_of rules before
room_of-least rules None = settled-room rules
room_of-least rules (Some before) = omega arith

room_of-most : (rules : Rules) (before : Option Before)
    → room_of rules before ≤ settled_by rules.verify rules.block_bits
room_of-most rules None = omega arith
room_of-most rules (Some before) = settled-room rules

pub place_here-append : (rules : Rules) (columns : Option Columns) (sound : Soundness) (at : ℕ) (last : Option Last)
    (bits more : List Bool) → Fits rules columns → room_at rules at last ≤ length bits
    → place_here rules columns sound at last (bits ++ more) ≡ place_here rules columns sound at last bits
place_here-append rules columns sound at last bits more fits room = go (cases_Bool (is_inside at last))
  where
    go : (is_inside at last ≡ true) ⊎ (is_inside at last ≡ false)
        → place_here rules columns sound at last (bits ++ more) ≡ place_here rules columns sound at last bits
    go (inl in_it) =
        let least = room-inside rules at last in_it in
        place_here-inside rules columns sound at last (bits ++ more) in_it
        ∙ place_inside-append rules columns sound at last bits more fits (omega arith)
        ∙ sym (place_here-inside rules columns sound at last bits in_it)
    go (inr out) =
        let is = room-outside rules at last out in
        let least = room_of-least rules (ends_at at last) in
        place_here-outside rules columns sound at last (bits ++ more) out
        ∙ ap (place_outside rules columns (bits ++ more))
        (place_at-append rules at (ends_at at last) bits more (omega arith))
        ∙ place_outside-append rules columns bits more (place_at rules at (ends_at at last) bits) fits (omega arith)
        ∙ sym (place_here-outside rules columns sound at last bits out)

-- ---- where the bits are too few

pub outside-none : (rules : Rules) (columns : Option Columns) (bits : List Bool)
    → place_outside rules columns bits None ≡ None
outside-none rules None bits = refl
outside-none rules (Some columns) bits = refl

pub place_here-short : (rules : Rules) (columns : Option Columns) (sound : Soundness) (at : ℕ) (last : Option Last)
    (bits : List Bool) → length bits < 32 + rules.block_bits → place_here rules columns sound at last bits ≡ None
place_here-short rules columns sound at last bits short = go (cases_Bool (is_inside at last))
  where
    go : (is_inside at last ≡ true) ⊎ (is_inside at last ≡ false)
        → place_here rules columns sound at last bits ≡ None
    go (inl in_it) =
        place_here-inside rules columns sound at last bits in_it ∙ inside-short rules columns sound at last bits short
    go (inr out) =
        place_here-outside rules columns sound at last bits out
        ∙ ap (place_outside rules columns bits) (place_at-short rules at (ends_at at last) bits short)
        ∙ outside-none rules columns bits

pub places_after-short : (rules : Rules) (columns : Option Columns) (sound : Soundness) (at : ℕ) (last : Option Last)
    (bits : List Bool) → length bits < 32 + rules.block_bits → places_after rules columns sound at last bits ≡ []
places_after-short rules columns sound at last [] short = places_after-nil rules columns sound at last
places_after-short rules columns sound at last (b ∷ bits) short =
    places_after-miss rules columns sound at last b bits
    (place_here-short rules columns sound at last (b ∷ bits) short)
    ∙ places_after-short rules columns sound (at + 1) last bits (omega arith)

-- the place before a bit has no say there: its codeblock ends further before
abbrev pub IsPast : ℕ → Option Last → Type 0
IsPast at None = Unit {0}
IsPast at (Some last) = last.end < at

pub past-outside : (at : ℕ) (last : Option Last) → IsPast at last
    → (is_inside at last ≡ false) × (ends_at at last ≡ None)
past-outside at None past = (refl, refl)
past-outside at (Some last) past =
    let test : (at == last.end) ≡ false = grind (arith, nat_tests) in
    (grind (arith, nat_tests), ap (λ c. cond c (Some last.before) None) test)

pub past-next : (at : ℕ) (last : Option Last) → IsPast at last → IsPast (at + 1) last
past-next at None past = tt
past-next at (Some last) past = omega arith

pub places_after-unsettled : (rules : Rules) (columns : Option Columns) (sound : Soundness) (at : ℕ)
    (last : Option Last) (bits : List Bool) → IsPast at last
    → length bits < settled_by rules.verify rules.block_bits → places_after rules columns sound at last bits ≡ []
places_after-unsettled rules columns sound at last [] past few = places_after-nil rules columns sound at last
places_after-unsettled rules columns sound at last (b ∷ bits) past few =
    let out = past-outside at last past in
    places_after-miss rules columns sound at last b bits
    (place_here-outside rules columns sound at last (b ∷ bits) out.0
    ∙ ap (λ before. place_outside rules columns (b ∷ bits) (place_at rules at before (b ∷ bits))) out.1
    ∙ ap (place_outside rules columns (b ∷ bits)) (place_at-unsettled rules at (b ∷ bits) few)
    ∙ outside-none rules columns (b ∷ bits))
    ∙ places_after-unsettled rules columns sound (at + 1) last bits (past-next at last past) (omega arith)

-- ---- where places stand

pub outside-is : (rules : Rules) (columns : Option Columns) (bits : List Bool) (place : Option Found) (f : Found)
    → place_outside rules columns bits place ≡ Some f → place ≡ Some f
outside-is rules None bits place f e = e
outside-is rules (Some columns) bits None f e = e
outside-is rules (Some columns) bits (Some g) f e = go (g.bridged && not (may_bridge rules columns g.inverted bits)) e
  where
    go : (c : Bool) → cond c None (Some g) ≡ Some f → Some g ≡ Some f
    go true e = absurd (cc)
    go false e = e

inside-place : (rules : Rules) (columns : Option Columns) (sound : Soundness) (at : ℕ) (last : Option Last)
    (bits : List Bool) (f : Found) → place_inside rules columns sound at last bits ≡ Some f → f.place ≡ at
inside-place rules None sound at last bits f e = absurd (cc)
inside-place rules (Some columns) sound at None bits f e = absurd (cc)
inside-place rules (Some columns) sound at (Some last) bits f e =
    go (nat_le (32 + rules.block_bits) (length bits) && is_open rules columns at last bits) (match_of rules bits) e
  where
    is : (inverted c : Bool) → cond c (Some (found_at at false inverted bits)) None ≡ Some f → f.place ≡ at
    is inverted true e =
        let same : found_at at false inverted bits ≡ f = cc in ap (λ (g : Found). g.place) (sym same)
    is inverted false e = absurd (cc)

    go : (c : Bool) (polarity : Option Bool) → cond c (sound_place sound at bits polarity) None ≡ Some f → f.place ≡ at
    go false polarity e = absurd (cc)
    go true None e = absurd (cc)
    go true (Some inverted) e = is inverted (sound at inverted) e

pub place_here-place : (rules : Rules) (columns : Option Columns) (sound : Soundness) (at : ℕ) (last : Option Last)
    (bits : List Bool) (f : Found) → place_here rules columns sound at last bits ≡ Some f → f.place ≡ at
place_here-place rules columns sound at last bits f e = go (cases_Bool (is_inside at last))
  where
    go : (is_inside at last ≡ true) ⊎ (is_inside at last ≡ false) → f.place ≡ at
    go (inl in_it) =
        inside-place rules columns sound at last bits f
        (sym (place_here-inside rules columns sound at last bits in_it) ∙ e)
    go (inr out) =
        (place_at-stands rules at (ends_at at last) bits f
        (outside-is rules columns bits (place_at rules at (ends_at at last) bits) f
        (sym (place_here-outside rules columns sound at last bits out) ∙ e))).place

abbrev FromOn : ℕ → List Found → Type 0
FromOn at = AllByRecursion (λ f. at ≤ f.place)

pub places_after-start : (rules : Rules) (columns : Option Columns) (sound : Soundness) (at : ℕ) (last : Option Last)
    (bits : List Bool) → FromOn at (places_after rules columns sound at last bits)
places_after-start rules columns sound =
    by_bits rules columns sound (λ at last bits fs. FromOn at fs) (λ at last. tt)
    (λ at last b bits fs e next. later at fs next)
    (λ at last b bits f fs e next.
    let is = place_here-place rules columns sound at last (b ∷ bits) f e in (omega arith, later at fs next))

-- each place stands before all further ones
abbrev pub Rise : List Found → Type 0
Rise [] = Unit {0}
Rise (f ∷ fs) = AllByRecursion (λ g. f.place < g.place) fs × Rise fs

pub places_after-rise : (rules : Rules) (columns : Option Columns) (sound : Soundness) (at : ℕ)
    (last : Option Last) (bits : List Bool) → Rise (places_after rules columns sound at last bits)
places_after-rise rules columns sound at last bits =
    (by_bits rules columns sound (λ at last bits fs. FromOn at fs × Rise fs) (λ at last. (tt, tt))
    (λ at last b bits fs e next. (later at fs next.0, next.1))
    (λ at last b bits f fs e next.
    let is = place_here-place rules columns sound at last (b ∷ bits) f e in
    ((omega arith, later at fs next.0), (before at f fs is next.0, next.1)))
    at last bits).1
  where
    before : (at : ℕ) (f : Found) (fs : List Found) → f.place ≡ at → FromOn (at + 1) fs
        → AllByRecursion (λ g. f.place < g.place) fs
    before at f [] is from = tt
    before at f (g ∷ fs) is from =
        (let first = from.0 in omega (arith, first, is), before at f fs is from.1)

-- ---- a longer list

-- its places are first those of the shorter one; the others are not settled there
pub record Continues (rules : Rules) (end : ℕ) (all first : List Found) : Type 0 where
  pub rest : List Found
  pub is : all ≡ first ++ rest
  pub past : AreAfter rules end rest

pub places_after-append : (rules : Rules) (columns : Option Columns) (sound : Soundness) (at : ℕ) (last : Option Last)
    (bits more : List Bool) → Fits rules columns
    → Continues rules (at + length bits) (places_after rules columns sound at last (bits ++ more))
    (places_after rules columns sound at last bits)
places_after-append rules columns sound at last [] more fits =
    let least = settled-room rules in
    record {
      rest = places_after rules columns sound at last more;
      is =
          ap (λ l. l ++ places_after rules columns sound at last more)
          (sym (places_after-nil rules columns sound at last));
      past =
          past-of rules (at + 0) at (places_after rules columns sound at last more) (omega arith)
          (places_after-start rules columns sound at last more);
    }
places_after-append rules columns sound at last (b ∷ bits) more fits =
    split (λ last. places_after-append rules columns sound (at + 1) last bits more fits)
    (cases_lt (length (b ∷ bits)) (room_at rules at last)) (cases_Bool (is_inside at last))
  where
    Goal : Type 0
    Goal = Continues rules (at + length (b ∷ bits)) (places_after rules columns sound at last ((b ∷ bits) ++ more))
        (places_after rules columns sound at last (b ∷ bits))

    Next : Type 0
    Next = (last : Option Last) → Continues rules (at + 1 + length bits)
        (places_after rules columns sound (at + 1) last (bits ++ more))
        (places_after rules columns sound (at + 1) last bits)

    here : Next → place_here rules columns sound at last (b ∷ (bits ++ more))
        ≡ place_here rules columns sound at last (b ∷ bits)
        → Seen (place_here rules columns sound at last (b ∷ bits)) → Goal
    here next same (none e) =
        let go = next last in record {
          rest = go.rest;
          is =
              places_after-miss rules columns sound at last b (bits ++ more) (same ∙ e) ∙ go.is
              ∙ ap (λ l. l ++ go.rest) (sym (places_after-miss rules columns sound at last b bits e));
          past = past-same rules (at + 1 + length bits) (at + suc (length bits)) go.rest (omega arith) go.past;
        }
    here next same (some f e) =
        let go = next (Some (last_at rules sound at last f)) in record {
          rest = go.rest;
          is =
              places_after-one rules columns sound at last b (bits ++ more) f (same ∙ e) ∙ ap (λ l. f ∷ l) go.is
              ∙ ap (λ l. l ++ go.rest) (sym (places_after-one rules columns sound at last b bits f e));
          past = past-same rules (at + 1 + length bits) (at + suc (length bits)) go.rest (omega arith) go.past;
        }

    short : length (b ∷ bits) < settled_by rules.verify rules.block_bits
        → places_after rules columns sound at last (b ∷ bits) ≡ [] → Goal
    short few empty = record {
      rest = places_after rules columns sound at last ((b ∷ bits) ++ more);
      is = ap (λ l. l ++ places_after rules columns sound at last ((b ∷ bits) ++ more)) (sym empty);
      past =
          past-of rules (at + length (b ∷ bits)) at (places_after rules columns sound at last ((b ∷ bits) ++ more))
          (omega arith) (places_after-start rules columns sound at last ((b ∷ bits) ++ more));
    }

    waits : (before : Option Before) → ends_at at last ≡ before → is_inside at last ≡ false
        → length (b ∷ bits) < room_of rules before → Goal
    waits (Some before) e out few =
        let most = room_of-most rules (Some before) in
        short (omega arith) (places_after-short rules columns sound at last (b ∷ bits) few)
    waits None e out few =
        short few (places_after-unsettled rules columns sound at last (b ∷ bits) (past last e out) few)
      where
        past : (last : Option Last) → ends_at at last ≡ None → is_inside at last ≡ false → IsPast at last
        past None e out = tt
        past (Some last) e out = elim (cases_lt last.end at) [
          | inl before ↦ before
          | inr not_before ↦ elim (cases_lt at last.end) [
            | inl inside ↦ absurd (let test : nat_lt at last.end ≡ true = grind (arith, nat_tests) in
                let no : true ≡ false = sym test ∙ out in cc)
            | inr not_inside ↦ absurd (let test : (at == last.end) ≡ true = grind (arith, nat_tests) in
                let no : Some last.before ≡ None = sym (ap (λ c. cond c (Some last.before) None) test) ∙ e in cc)
          ]
        ]

    split : Next → (length (b ∷ bits) < room_at rules at last) ⊎ (room_at rules at last ≤ length (b ∷ bits))
        → (is_inside at last ≡ true) ⊎ (is_inside at last ≡ false) → Goal
    split next (inr room) which =
        here next (place_here-append rules columns sound at last (b ∷ bits) more fits room)
        (seen (place_here rules columns sound at last (b ∷ bits)))
    split next (inl few) (inl in_it) =
        let is = room-inside rules at last in_it in
        let least = settled-room rules in
        short (omega arith) (places_after-short rules columns sound at last (b ∷ bits) (omega arith))
    split next (inl few) (inr out) =
        let is = room-outside rules at last out in
        waits (ends_at at last) refl out (omega arith)

pub places_with-append : (rules : Rules) (columns : Option Columns) (sound : Soundness) (bits more : List Bool)
    → Fits rules columns
    → Continues rules (length bits) (places_with rules columns sound (bits ++ more))
    (places_with rules columns sound bits)
places_with-append rules columns sound bits more fits =
    let go = places_after-append rules columns sound 0 None bits more fits in
    record {
      rest = go.rest;
      is = go.is;
      past = past-same rules (0 + length bits) (length bits) go.rest (omega arith) go.past;
    }

places-left : (rules : Rules) (end : ℕ) (all first : List Found) → Continues rules end all first
    → (all ≡ first ++ drop (length first) all) × AreAfter rules end (drop (length first) all)
places-left rules end all first go =
    let left : drop (length first) all ≡ go.rest = ap (drop (length first)) go.is ∙ drop-prefix first go.rest in
    (go.is ∙ ap (λ l. first ++ l) (sym left), subst (λ (fs : List Found). AreAfter rules end fs) (sym left) go.past)
  where
    drop-prefix : (first rest : List Found) → drop (length first) (first ++ rest) ≡ rest
    drop-prefix [] rest = refl
    drop-prefix (f ∷ first) rest = drop-prefix first rest

pub places_with-goes_on : (rules : Rules) (columns : Option Columns) (sound : Soundness) (bits more : List Bool)
    → Fits rules columns
    → (places_with rules columns sound (bits ++ more) ≡ places_with rules columns sound bits
    ++ drop (length (places_with rules columns sound bits)) (places_with rules columns sound (bits ++ more)))
    × AreAfter rules (length bits)
    (drop (length (places_with rules columns sound bits)) (places_with rules columns sound (bits ++ more)))
places_with-goes_on rules columns sound bits more fits =
    places-left rules (length bits) (places_with rules columns sound (bits ++ more))
    (places_with rules columns sound bits) (places_with-append rules columns sound bits more fits)

-- ---- each codeblock lies whole in the bits

pub place_here-room : (rules : Rules) (columns : Option Columns) (sound : Soundness) (at : ℕ) (last : Option Last)
    (bits : List Bool) (f : Found) → place_here rules columns sound at last bits ≡ Some f
    → 32 + rules.block_bits ≤ length bits
place_here-room rules columns sound at last bits f e = elim (cases_lt (length bits) (32 + rules.block_bits)) [
  | inl short ↦ absurd (let no : None ≡ Some f =
      sym (place_here-short rules columns sound at last bits short) ∙ e in cc)
  | inr room ↦ room
]

pub places_after-end : (rules : Rules) (columns : Option Columns) (sound : Soundness) (at : ℕ) (last : Option Last)
    (bits : List Bool) → EndBefore rules (at + length bits) (places_after rules columns sound at last bits)
places_after-end rules columns sound =
    by_bits rules columns sound (λ at last bits fs. EndBefore rules (at + length bits) fs) (λ at last. tt)
    (λ at last b bits fs e next. there at bits fs next)
    (λ at last b bits f fs e next.
    let is = place_here-place rules columns sound at last (b ∷ bits) f e in
    let room = place_here-room rules columns sound at last (b ∷ bits) f e in (omega arith, there at bits fs next))
  where
    there : (at : ℕ) (bits : List Bool) (fs : List Found) → EndBefore rules (at + 1 + length bits) fs
        → EndBefore rules (at + suc (length bits)) fs
    there at bits fs all = let same : at + 1 + length bits ≡ at + suc (length bits) = omega arith in
        subst (λ (n : ℕ). EndBefore rules n fs) same all

pub places_with-end : (rules : Rules) (columns : Option Columns) (sound : Soundness) (bits : List Bool)
    → EndBefore rules (length bits) (places_with rules columns sound bits)
places_with-end rules columns sound bits =
    let none : 0 + length bits ≡ length bits = omega arith in
    subst (λ (n : ℕ). EndBefore rules n (places_with rules columns sound bits)) none
    (places_after-end rules columns sound 0 None bits)

-- ---- only of codeblocks that are whole it matters whether they are sound

-- of all codeblocks that begin in these bits and end there
abbrev pub SaySame : Rules → ℕ → ℕ → Soundness → Soundness → Type 0
SaySame rules at end sound other = (q : ℕ) (inverted : Bool) → at ≤ q → q + 32 + rules.block_bits ≤ end
    → sound q inverted ≡ other q inverted

place_here-sound : (rules : Rules) (columns : Option Columns) (sound other : Soundness) (at : ℕ) (last : Option Last)
    (bits : List Bool) → SaySame rules at (at + length bits) sound other
    → place_here rules columns sound at last bits ≡ place_here rules columns other at last bits
unfolding place_here
place_here-sound rules columns sound other at last bits same =
    ap (λ o. cond (is_inside at last) o (place_outside rules columns bits (place_at rules at (ends_at at last) bits)))
    (go columns last (cases_lt (length bits) (32 + rules.block_bits)))
  where
    by : (polarity : Option Bool) → 32 + rules.block_bits ≤ length bits
        → sound_place sound at bits polarity ≡ sound_place other at bits polarity
    by None room = refl
    by (Some inverted) room =
        ap (λ c. cond c (Some (found_at at false inverted bits)) None)
        (same at inverted (omega arith) (omega arith))

    go : (columns : Option Columns) (last : Option Last)
        → (length bits < 32 + rules.block_bits) ⊎ (32 + rules.block_bits ≤ length bits)
        → place_inside rules columns sound at last bits ≡ place_inside rules columns other at last bits
    go None last which = refl
    go (Some columns) None which = refl
    go (Some columns) (Some last) (inl short) =
        inside-short rules (Some columns) sound at (Some last) bits short
        ∙ sym (inside-short rules (Some columns) other at (Some last) bits short)
    go (Some columns) (Some last) (inr room) =
        ap (λ o. cond (nat_le (32 + rules.block_bits) (length bits) && is_open rules columns at last bits) o None)
        (by (match_of rules bits) room)

pub places_after-sound : (rules : Rules) (columns : Option Columns) (sound other : Soundness) (at : ℕ)
    (last : Option Last) (bits : List Bool) → SaySame rules at (at + length bits) sound other
    → places_after rules columns sound at last bits ≡ places_after rules columns other at last bits
places_after-sound rules columns sound other =
    by_bits rules columns sound P (λ at last same. sym (places_after-nil rules columns other at last)) miss one
  where
    P : OfPlaces
    P at last bits fs = SaySame rules at (at + length bits) sound other
        → fs ≡ places_after rules columns other at last bits

    later : (at : ℕ) (bits : List Bool) → SaySame rules at (at + suc (length bits)) sound other
        → SaySame rules (at + 1) (at + 1 + length bits) sound other
    later at bits same q inverted from whole = same q inverted (omega arith) (omega arith)

    miss : StaysAtNone rules columns sound P
    miss at last b bits fs e next same =
        next (later at bits same)
        ∙ sym (places_after-miss rules columns other at last b bits
        (sym (place_here-sound rules columns sound other at last (b ∷ bits) same) ∙ e))

    one : StaysAtOne rules columns sound P
    one at last b bits f fs e next same =
        let room = place_here-room rules columns sound at last (b ∷ bits) f e in
        let say : sound at f.inverted ≡ other at f.inverted = same at f.inverted (omega arith) (omega arith) in
        let last_is : last_at rules sound at last f ≡ last_at rules other at last f =
        λ i. record { end = at + 32 + rules.block_bits; before = before_next (ends_at at last) f; sound = say i } in
        ap (λ fs. f ∷ fs) (next (later at bits same)
        ∙ ap (λ (l : Last). places_after rules columns other (at + 1) (Some l) bits) last_is)
        ∙ sym (places_after-one rules columns other at last b bits f
        (sym (place_here-sound rules columns sound other at last (b ∷ bits) same) ∙ e))

pub places_with-sound : (rules : Rules) (columns : Option Columns) (sound other : Soundness) (bits : List Bool)
    → SaySame rules 0 (length bits) sound other
    → places_with rules columns sound bits ≡ places_with rules columns other bits
places_with-sound rules columns sound other bits same =
    places_after-sound rules columns sound other 0 None bits
    (λ q inverted from whole. same q inverted from (omega arith))
