-- The places of bits that were all complemented.
use Rattle.std.proofs.Common.{◌≡◌, ℕ, zero, suc, ◌+◌, ◌-◌, ◌*◌, ◌<◌, ◌≤◌, Bool, true, false, cond, not, ◌==◌, ◌&&◌, ◌||◌, nat_le, nat_lt, List, [], ◌∷◌, length, take, drop, map, refl, sym, ap, ◌∙◌, arith, Option, Some, None, is_none, ◌⊎◌, inl, inr, length-drop}
use Rattle.std.specs.Option.{option_map}
use Rattle.std.proofs.lemmas.Bool.{cases_Bool, cases_lt}
use Rattle.std.proofs.lemmas.Bool.Decides.{nat_tests}
use Rattle.tm_sync.specs.declared.found.Found.{Found}
use Rattle.tm_sync.specs.declared.found.Before.{Before}
use Rattle.tm_sync.specs.Bits.{flip, complement, in_polarity, difference, differences, marker_bits}
use Rattle.tm_sync.specs.declared.found.Columns.{Columns}
use Rattle.tm_sync.specs.Places.{Rules, wrong_bits, match_of, matches_in, are_verified, verified, place_polarity, before_next, found_at, place_by, place_at, places, complemented_place}
use Rattle.tm_sync.specs.Rescan.{Soundness, Last, reach, ends_at, is_inside, is_open, may_bridge, sound_place, place_outside, place_inside, place_here, last_at, places_after, places_with}
use Rattle.tm_sync.specs.PlacesInside.{never}
use Rattle.tm_sync.proofs.Steps.{place_at-room, place_at-short, are_verified-zero, are_verified-more, are_verified-past}
use Rattle.tm_sync.proofs.Matches.{wrong-both}
use Rattle.tm_sync.proofs.Rescanned.{OfPlaces, StaysAtNone, StaysAtOne, by_bits, places_after-nil, places_after-miss, places_after-one, place_here-inside, place_here-outside, places_with-off}
use Rattle.tm_sync.proofs.Prefixes.{all-same, inside-room, inside-short}

pub length-complement : (bits : List Bool) → length (complement bits) ≡ length bits
length-complement [] = refl
length-complement (b ∷ bits) = let more = length-complement bits in omega arith

pub take-complement : (n : ℕ) (bits : List Bool) → take n (complement bits) ≡ complement (take n bits)
take-complement zero bits = refl
take-complement (suc n) [] = refl
take-complement (suc n) (b ∷ bits) = ap (λ l. flip b ∷ l) (take-complement n bits)

pub drop-complement : (n : ℕ) (bits : List Bool) → drop n (complement bits) ≡ complement (drop n bits)
drop-complement zero bits = refl
drop-complement (suc n) [] = refl
drop-complement (suc n) (b ∷ bits) = drop-complement n bits

pub complement-twice : (bits : List Bool) → complement (complement bits) ≡ bits
complement-twice [] = refl
complement-twice (true ∷ bits) = ap (λ l. true ∷ l) (complement-twice bits)
complement-twice (false ∷ bits) = ap (λ l. false ∷ l) (complement-twice bits)

pub in_polarity-complemented : (inverted : Bool) (bits : List Bool)
    → in_polarity (flip inverted) (complement bits) ≡ in_polarity inverted bits
in_polarity-complemented true bits = refl
in_polarity-complemented false bits = complement-twice bits

difference-complemented : (x y : Bool) → difference (flip x) y ≡ difference x (flip y)
difference-complemented true true = refl
difference-complemented true false = refl
difference-complemented false true = refl
difference-complemented false false = refl

differences-complemented : (xs ys : List Bool) → differences (complement xs) ys ≡ differences xs (complement ys)
differences-complemented [] ys = refl
differences-complemented (x ∷ xs) [] = refl
differences-complemented (x ∷ xs) (y ∷ ys) = λ i. difference-complemented x y i + differences-complemented xs ys i

wrong-complemented : (inverted : Bool) (bits : List Bool) → wrong_bits inverted (complement bits)
    ≡ wrong_bits (flip inverted) bits
unfolding wrong_bits
wrong-complemented true bits =
    ap (λ l. differences l (complement marker_bits)) (take-complement 32 bits)
    ∙ differences-complemented (take 32 bits) (complement marker_bits)
    ∙ ap (differences (take 32 bits)) (complement-twice marker_bits)
wrong-complemented false bits =
    ap (λ l. differences l marker_bits) (take-complement 32 bits)
    ∙ differences-complemented (take 32 bits) marker_bits

flip-twice : (b : Bool) → flip (flip b) ≡ b
flip-twice true = refl
flip-twice false = refl

wrong-flipped : (inverted : Bool) (bits : List Bool) → wrong_bits (flip inverted) (complement bits)
    ≡ wrong_bits inverted bits
wrong-flipped inverted bits =
    wrong-complemented (flip inverted) bits ∙ ap (λ (v : Bool). wrong_bits v bits) (flip-twice inverted)

match-complemented : (rules : Rules) (bits : List Bool) → rules.either ≡ true → rules.tolerance ≤ 15
    → 32 ≤ length bits → match_of rules (complement bits) ≡ option_map flip (match_of rules bits)
unfolding match_of
match-complemented rules bits either few long =
    (λ i. cond (nat_le (wrong-complemented false bits i) rules.tolerance) (Some false)
    (cond (either i && nat_le (wrong-complemented true bits i) rules.tolerance) (Some true) None))
    ∙ go (nat_le (wrong_bits false bits) rules.tolerance) (nat_le (wrong_bits true bits) rules.tolerance) refl refl
    ∙ (λ i. option_map flip (cond (nat_le (wrong_bits false bits) rules.tolerance) (Some false)
    (cond (sym either i && nat_le (wrong_bits true bits) rules.tolerance) (Some true) None)))
  where
    go : (u v : Bool) → nat_le (wrong_bits false bits) rules.tolerance ≡ u
        → nat_le (wrong_bits true bits) rules.tolerance ≡ v
        → cond v (Some false) (cond (true && u) (Some true) None)
        ≡ option_map flip (cond u (Some false) (cond (true && v) (Some true) None))
    go true true p q = let sum = wrong-both bits long in absurd (grind (arith, nat_tests))
    go true false p q = refl
    go false true p q = refl
    go false false p q = refl

-- what stands before, complemented
abbrev complemented_before : Before → Before
complemented_before before = record { inverted = flip before.inverted; bridged = before.bridged }

place_by-complemented : (rules : Rules) (at : ℕ) (before : Option Before) (bits : List Bool) (polarity : Option Bool)
    → place_by rules at (option_map complemented_before before) (complement bits) (option_map flip polarity)
    ≡ option_map complemented_place (place_by rules at before bits polarity)
place_by-complemented rules at before bits (Some inverted) =
    λ i. Some (record {
      place = at;
      distance = wrong-flipped inverted bits i;
      bridged = false;
      inverted = flip inverted;
    })
place_by-complemented rules at None bits None = refl
place_by-complemented rules at (Some before) bits None = go (nat_lt before.bridged rules.fly)
  where
    go : (c : Bool) → cond c (Some (found_at at true (flip before.inverted) (complement bits))) None
        ≡ option_map complemented_place (cond c (Some (found_at at true before.inverted bits)) None)
    go true =
        λ i. Some (record {
          place = at;
          distance = wrong-flipped before.inverted bits i;
          bridged = true;
          inverted = flip before.inverted;
        })
    go false = refl

matches_in-complemented : (polarity : Option Bool) (inverted : Bool)
    → matches_in (option_map flip polarity) (flip inverted) ≡ matches_in polarity inverted
matches_in-complemented None inverted = refl
matches_in-complemented (Some true) true = refl
matches_in-complemented (Some true) false = refl
matches_in-complemented (Some false) true = refl
matches_in-complemented (Some false) false = refl

are_verified-complemented : (rules : Rules) (inverted : Bool) (count : ℕ) (bits : List Bool) → rules.either ≡ true
    → rules.tolerance ≤ 15
    → are_verified rules (flip inverted) count (complement bits) ≡ are_verified rules inverted count bits
are_verified-complemented rules inverted zero bits either few =
    are_verified-zero rules (flip inverted) (complement bits) ∙ sym (are_verified-zero rules inverted bits)
are_verified-complemented rules inverted (suc count) bits either few =
    go (are_verified-complemented rules inverted count (drop (32 + rules.block_bits) bits) either few)
    (cases_lt (length bits) (32 + (32 + rules.block_bits)))
  where
    next : drop (32 + rules.block_bits) (complement bits) ≡ complement (drop (32 + rules.block_bits) bits)
    next = drop-complement (32 + rules.block_bits) bits

    go : are_verified rules (flip inverted) count (complement (drop (32 + rules.block_bits) bits))
        ≡ are_verified rules inverted count (drop (32 + rules.block_bits) bits)
        → (length bits < 32 + (32 + rules.block_bits)) ⊎ (32 + (32 + rules.block_bits) ≤ length bits)
        → are_verified rules (flip inverted) (suc count) (complement bits)
        ≡ are_verified rules inverted (suc count) bits
    go more (inl past) =
        are_verified-past rules (flip inverted) count (complement bits) (omega (arith, length-complement bits))
        ∙ sym (are_verified-past rules inverted count bits past)
    go more (inr room) =
        let left = length-drop (32 + rules.block_bits) bits in
        let polarity = match-complemented rules (drop (32 + rules.block_bits) bits) either few (omega arith) in
        are_verified-more rules (flip inverted) count (complement bits) (omega (arith, length-complement bits))
        ∙ (λ i. matches_in (match_of rules (next i)) (flip inverted)
        && are_verified rules (flip inverted) count (next i))
        ∙ (λ i. matches_in (polarity i) (flip inverted) && more i)
        ∙ ap (λ c. c && are_verified rules inverted count (drop (32 + rules.block_bits) bits))
        (matches_in-complemented (match_of rules (drop (32 + rules.block_bits) bits)) inverted)
        ∙ sym (are_verified-more rules inverted count bits room)

place_polarity-complemented : (rules : Rules) (before : Option Before) (bits : List Bool) → rules.either ≡ true
    → rules.tolerance ≤ 15 → 32 ≤ length bits
    → place_polarity rules (option_map complemented_before before) (complement bits)
    ≡ option_map flip (place_polarity rules before bits)
place_polarity-complemented rules (Some before) bits either few long = match-complemented rules bits either few long
place_polarity-complemented rules None bits either few long =
    ap (verified rules (complement bits)) (match-complemented rules bits either few long) ∙ go (match_of rules bits)
  where
    choose : (inverted : Bool) (c : Bool) → cond c (Some (flip inverted)) None
        ≡ option_map flip (cond c (Some inverted) None)
    choose inverted true = refl
    choose inverted false = refl

    go : (polarity : Option Bool) → verified rules (complement bits) (option_map flip polarity)
        ≡ option_map flip (verified rules bits polarity)
    go None = refl
    go (Some inverted) =
        ap (λ c. cond c (Some (flip inverted)) None) (are_verified-complemented rules inverted rules.verify bits
        either few)
        ∙ choose inverted (are_verified rules inverted rules.verify bits)

place_at-complemented : (rules : Rules) (at : ℕ) (before : Option Before) (bits : List Bool) → rules.either ≡ true
    → rules.tolerance ≤ 15
    → place_at rules at (option_map complemented_before before) (complement bits)
    ≡ option_map complemented_place (place_at rules at before bits)
place_at-complemented rules at before bits either few = go (cases_lt (length bits) (32 + rules.block_bits))
  where
    go : (length bits < 32 + rules.block_bits) ⊎ (32 + rules.block_bits ≤ length bits)
        → place_at rules at (option_map complemented_before before) (complement bits)
        ≡ option_map complemented_place (place_at rules at before bits)
    go (inl short) =
        place_at-short rules at (option_map complemented_before before) (complement bits)
        (omega (arith, length-complement bits))
        ∙ ap (option_map complemented_place) (sym (place_at-short rules at before bits short))
    go (inr room) =
        place_at-room rules at (option_map complemented_before before) (complement bits)
        (omega (arith, length-complement bits))
        ∙ ap (place_by rules at (option_map complemented_before before) (complement bits))
        (place_polarity-complemented rules before bits either few (omega arith))
        ∙ place_by-complemented rules at before bits (place_polarity rules before bits)
        ∙ ap (option_map complemented_place) (sym (place_at-room rules at before bits room))

-- ---- where places are looked for inside codeblocks too

-- whether 32 bits match, however many there are
unmatched-complemented : (rules : Rules) (bits : List Bool) → rules.either ≡ true
    → is_none (match_of rules (complement bits)) ≡ is_none (match_of rules bits)
unfolding match_of
unmatched-complemented rules bits either =
    (λ i. is_none (cond (nat_le (wrong-complemented false bits i) rules.tolerance) (Some false)
    (cond (either i && nat_le (wrong-complemented true bits i) rules.tolerance) (Some true) None)))
    ∙ go (nat_le (wrong_bits true bits) rules.tolerance) (nat_le (wrong_bits false bits) rules.tolerance)
    ∙ (λ i. is_none (cond (nat_le (wrong_bits false bits) rules.tolerance) (Some false)
    (cond (sym either i && nat_le (wrong_bits true bits) rules.tolerance) (Some true) None)))
  where
    go : (u v : Bool) → is_none (cond u (Some false) (cond (true && v) (Some true) None))
        ≡ is_none (cond v (Some false) (cond (true && u) (Some true) None))
    go true true = refl
    go true false = refl
    go false true = refl
    go false false = refl

unmatched-after : (rules : Rules) (n : ℕ) (bits : List Bool) → rules.either ≡ true
    → is_none (match_of rules (drop n (complement bits))) ≡ is_none (match_of rules (drop n bits))
unmatched-after rules n bits either =
    ap (λ (l : List Bool). is_none (match_of rules l)) (drop-complement n bits)
    ∙ unmatched-complemented rules (drop n bits) either

may_bridge-complemented : (rules : Rules) (columns : Columns) (inverted : Bool) (bits : List Bool)
    → rules.either ≡ true
    → may_bridge rules columns (flip inverted) (complement bits) ≡ may_bridge rules columns inverted bits
may_bridge-complemented rules columns inverted bits either =
    let near : wrong_bits (flip (flip inverted)) (complement bits) ≡ wrong_bits (flip inverted) bits =
    wrong-complemented (flip (flip inverted)) bits
    ∙ ap (λ (v : Bool). wrong_bits (flip v) bits) (flip-twice inverted) in
    let each = all-same _ _ 1 columns.strength
    (λ k below. unmatched-after rules (columns.stride * k) bits either) in
    (λ i. nat_lt 8 (near i) && each i)

place_outside-complemented : (rules : Rules) (columns : Option Columns) (bits : List Bool) (place : Option Found)
    → rules.either ≡ true
    → place_outside rules columns (complement bits) (option_map complemented_place place)
    ≡ option_map complemented_place (place_outside rules columns bits place)
place_outside-complemented rules None bits place either = refl
place_outside-complemented rules (Some columns) bits None either = refl
place_outside-complemented rules (Some columns) bits (Some f) either =
    ap (λ may. cond (f.bridged && not may) None (Some (complemented_place f)))
    (may_bridge-complemented rules columns f.inverted bits either)
    ∙ go (f.bridged && not (may_bridge rules columns f.inverted bits))
  where
    go : (c : Bool) → cond c None (Some (complemented_place f))
        ≡ option_map complemented_place (cond c None (Some f))
    go true = refl
    go false = refl

-- codeblocks are sound as those in the other polarity are
abbrev pub IsComplemented : Soundness → Soundness → Type 0
IsComplemented other sound = (q : ℕ) (inverted : Bool) → other q (flip inverted) ≡ sound q inverted

sound_place-complemented : (sound other : Soundness) (at : ℕ) (bits : List Bool) (polarity : Option Bool)
    → IsComplemented other sound
    → sound_place other at (complement bits) (option_map flip polarity)
    ≡ option_map complemented_place (sound_place sound at bits polarity)
sound_place-complemented sound other at bits None same = refl
sound_place-complemented sound other at bits (Some inverted) same =
    (λ i. cond (same at inverted i) (Some (record {
      place = at;
      distance = wrong-flipped inverted bits i;
      bridged = false;
      inverted = flip inverted;
    })) None) ∙ go (sound at inverted)
  where
    go : (c : Bool) → cond c (Some (complemented_place (found_at at false inverted bits))) None
        ≡ option_map complemented_place (cond c (Some (found_at at false inverted bits)) None)
    go true = refl
    go false = refl

abbrev complemented_last : Last → Last
complemented_last last =
    record { end = last.end; before = complemented_before last.before; sound = last.sound }

inside-complemented : (at : ℕ) (last : Option Last)
    → is_inside at (option_map complemented_last last) ≡ is_inside at last
inside-complemented at None = refl
inside-complemented at (Some last) = refl

ends-complemented : (at : ℕ) (last : Option Last)
    → ends_at at (option_map complemented_last last) ≡ option_map complemented_before (ends_at at last)
ends-complemented at None = refl
ends-complemented at (Some last) = go (at == last.end)
  where
    go : (c : Bool) → cond c (Some (complemented_before last.before)) None
        ≡ option_map complemented_before (cond c (Some last.before) None)
    go true = refl
    go false = refl

place_inside-complemented : (rules : Rules) (columns : Option Columns) (sound other : Soundness) (at : ℕ)
    (last : Option Last) (bits : List Bool) → rules.either ≡ true → rules.tolerance ≤ 15
    → IsComplemented other sound
    → place_inside rules columns other at (option_map complemented_last last) (complement bits)
    ≡ option_map complemented_place (place_inside rules columns sound at last bits)
place_inside-complemented rules None sound other at last bits either few same = refl
place_inside-complemented rules (Some columns) sound other at None bits either few same = refl
place_inside-complemented rules (Some columns) sound other at (Some last) bits either few same =
    go (cases_lt (length bits) (32 + rules.block_bits))
  where
    open_same : is_open rules columns at (complemented_last last) (complement bits) ≡ is_open rules columns at last bits
    open_same =
        ap (λ c. not last.sound || (nat_le last.end (at + reach columns) && c))
        (unmatched-after rules (last.end - at) bits either)

    choose : (c : Bool) (o : Option Found) → cond c (option_map complemented_place o) None
        ≡ option_map complemented_place (cond c o None)
    choose true o = refl
    choose false o = refl

    go : (length bits < 32 + rules.block_bits) ⊎ (32 + rules.block_bits ≤ length bits)
        → place_inside rules (Some columns) other at (Some (complemented_last last)) (complement bits)
        ≡ option_map complemented_place (place_inside rules (Some columns) sound at (Some last) bits)
    go (inl short) =
        inside-short rules (Some columns) other at (Some (complemented_last last)) (complement bits)
        (omega (arith, length-complement bits))
        ∙ ap (option_map complemented_place) (sym (inside-short rules (Some columns) sound at (Some last) bits short))
    go (inr room) =
        inside-room rules columns other at (complemented_last last) (complement bits)
        (omega (arith, length-complement bits))
        ∙ (λ i. cond (open_same i) (sound_place other at (complement bits)
        (match-complemented rules bits either few (omega arith) i)) None)
        ∙ ap (λ o. cond (is_open rules columns at last bits) o None)
        (sound_place-complemented sound other at bits (match_of rules bits) same)
        ∙ choose (is_open rules columns at last bits) (sound_place sound at bits (match_of rules bits))
        ∙ ap (option_map complemented_place) (sym (inside-room rules columns sound at last bits room))

place_here-complemented : (rules : Rules) (columns : Option Columns) (sound other : Soundness) (at : ℕ)
    (last : Option Last) (bits : List Bool) → rules.either ≡ true → rules.tolerance ≤ 15
    → IsComplemented other sound
    → place_here rules columns other at (option_map complemented_last last) (complement bits)
    ≡ option_map complemented_place (place_here rules columns sound at last bits)
place_here-complemented rules columns sound other at last bits either few same = go (cases_Bool (is_inside at last))
  where
    go : (is_inside at last ≡ true) ⊎ (is_inside at last ≡ false)
        → place_here rules columns other at (option_map complemented_last last) (complement bits)
        ≡ option_map complemented_place (place_here rules columns sound at last bits)
    go (inl in_it) =
        place_here-inside rules columns other at (option_map complemented_last last) (complement bits)
        (inside-complemented at last ∙ in_it)
        ∙ place_inside-complemented rules columns sound other at last bits either few same
        ∙ ap (option_map complemented_place) (sym (place_here-inside rules columns sound at last bits in_it))
    go (inr out) =
        place_here-outside rules columns other at (option_map complemented_last last) (complement bits)
        (inside-complemented at last ∙ out)
        ∙ ap (place_outside rules columns (complement bits))
        (ap (λ before. place_at rules at before (complement bits)) (ends-complemented at last)
        ∙ place_at-complemented rules at (ends_at at last) bits either few)
        ∙ place_outside-complemented rules columns bits (place_at rules at (ends_at at last) bits) either
        ∙ ap (option_map complemented_place) (sym (place_here-outside rules columns sound at last bits out))

last-complemented : (rules : Rules) (sound other : Soundness) (at : ℕ) (last : Option Last) (f : Found)
    → IsComplemented other sound
    → last_at rules other at (option_map complemented_last last) (complemented_place f)
    ≡ complemented_last (last_at rules sound at last f)
last-complemented rules sound other at last f same =
    λ i. record {
      end = at + 32 + rules.block_bits;
      before = (ap (λ before. before_next before (complemented_place f)) (ends-complemented at last)
          ∙ next (ends_at at last)) i;
      sound = same at f.inverted i;
    }
  where
    next : (before : Option Before) → before_next (option_map complemented_before before) (complemented_place f)
        ≡ complemented_before (before_next before f)
    next None = refl
    next (Some before) = refl

-- with either polarity, the places of the complemented bits are the same ones complemented
pub places_with-complemented : (rules : Rules) (columns : Option Columns) (sound other : Soundness) (bits : List Bool)
    → rules.either ≡ true → rules.tolerance ≤ 15 → IsComplemented other sound
    → places_with rules columns other (complement bits) ≡ map complemented_place (places_with rules columns sound bits)
places_with-complemented rules columns sound other bits either few same =
    by_bits rules columns sound P (λ at last. places_after-nil rules columns other at (option_map complemented_last last))
    miss one 0 None bits
  where
    P : OfPlaces
    P at last bits fs = places_after rules columns other at (option_map complemented_last last) (complement bits)
        ≡ map complemented_place fs

    here : (at : ℕ) (last : Option Last) (bits : List Bool)
        → place_here rules columns other at (option_map complemented_last last) (complement bits)
        ≡ option_map complemented_place (place_here rules columns sound at last bits)
    here at last bits = place_here-complemented rules columns sound other at last bits either few same

    miss : StaysAtNone rules columns sound P
    miss at last b bits fs e next =
        places_after-miss rules columns other at (option_map complemented_last last) (flip b) (complement bits)
        (here at last (b ∷ bits) ∙ ap (option_map complemented_place) e) ∙ next

    one : StaysAtOne rules columns sound P
    one at last b bits f fs e next =
        places_after-one rules columns other at (option_map complemented_last last) (flip b) (complement bits)
        (complemented_place f) (here at last (b ∷ bits) ∙ ap (option_map complemented_place) e)
        ∙ ap (λ (l : Last). complemented_place f ∷ places_after rules columns other (at + 1) (Some l) (complement bits))
        (last-complemented rules sound other at last f same)
        ∙ ap (λ fs. complemented_place f ∷ fs) next

pub places-complemented : (rules : Rules) (bits : List Bool) → rules.either ≡ true → rules.tolerance ≤ 15
    → places rules (complement bits) ≡ map complemented_place (places rules bits)
places-complemented rules bits either few =
    sym (places_with-off rules never (complement bits))
    ∙ places_with-complemented rules None never never bits either few (λ q inverted. refl)
    ∙ ap (map complemented_place) (places_with-off rules never bits)
