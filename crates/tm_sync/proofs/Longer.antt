-- The places of a list that goes on.
use Rattle.std.proofs.Common.{◌≡◌, ℕ, zero, suc, ◌+◌, ◌-◌, ◌*◌, ◌<◌, ◌≤◌, Bool, true, false, cond, nat_lt, List, [], ◌∷◌, ◌++◌, length, drop, refl, sym, ap, ◌∙◌, subst, arith, Option, Some, None, length-append, mul-le-mul_right, ◌⊎◌, inl, inr}
use Rattle.std.specs.List.{AllByRecursion}
use Rattle.std.proofs.lemmas.Bool.{cases_lt}
use Rattle.tm_sync.specs.declared.found.Found.{Found}
use Rattle.tm_sync.specs.declared.found.Before.{Before}
use Rattle.tm_sync.specs.Places.{Rules, place_polarity, settled_by, before_next, found_at, place_by, place_at, places_from, places}
use Rattle.tm_sync.proofs.Steps.{places_from-nil, places_from-short, places_from-one, places_from-miss, places_from-inside, places_from-unsettled, settled-room, settled-verified, settled-few, place_polarity-append, wrong_bits-append, place_at-room, place_at-short}

-- what stands at a place with room for its codeblock stays, whatever comes after
pub place_by-append : (rules : Rules) (at : ℕ) (before : Option Before) (bits more : List Bool)
    (polarity : Option Bool) → 32 ≤ length bits
    → place_by rules at before (bits ++ more) polarity ≡ place_by rules at before bits polarity
place_by-append rules at before bits more (Some inverted) long =
    λ i. Some (record {
      place = at;
      distance = wrong_bits-append inverted bits more long i;
      bridged = false;
      inverted = inverted;
    })
place_by-append rules at None bits more None long = refl
place_by-append rules at (Some before) bits more None long =
    λ i. cond (nat_lt before.bridged rules.fly) (Some (record {
      place = at;
      distance = wrong_bits-append before.inverted bits more long i;
      bridged = true;
      inverted = before.inverted;
    })) None

-- the bits that settle whether a place with its codeblock stands at their start
abbrev pub room_of : Rules → Option Before → ℕ
room_of rules None = settled_by rules.verify rules.block_bits
room_of rules (Some before) = 32 + rules.block_bits

pub place_at-append : (rules : Rules) (at : ℕ) (before : Option Before) (bits more : List Bool)
    → room_of rules before ≤ length bits
    → place_at rules at before (bits ++ more) ≡ place_at rules at before bits
place_at-append rules at None bits more room =
    let whole = settled-room rules in
    let least = settled-verified rules in
    place_at-room rules at None (bits ++ more) (omega (arith, length-append bits more))
    ∙ ap (place_by rules at None (bits ++ more)) (place_polarity-append rules None bits more (omega arith))
    ∙ place_by-append rules at None bits more (place_polarity rules None bits) (omega arith)
    ∙ sym (place_at-room rules at None bits (omega arith))
place_at-append rules at (Some before) bits more room =
    place_at-room rules at (Some before) (bits ++ more) (omega (arith, length-append bits more))
    ∙ ap (place_by rules at (Some before) (bits ++ more))
    (place_polarity-append rules (Some before) bits more (omega arith))
    ∙ place_by-append rules at (Some before) bits more (place_polarity rules (Some before) bits) (omega arith)
    ∙ sym (place_at-room rules at (Some before) bits room)

-- whether a place is there, with the equation
pub data Seen (o : Option Found) : Type 0 where
  none : o ≡ None → Seen o
  some : (f : Found) → o ≡ Some f → Seen o

pub seen : (o : Option Found) → Seen o
seen None = none refl
seen (Some f) = some f refl

-- ---- each codeblock lies whole in the bits
-- what a place says of where it stands
pub record Stands (rules : Rules) (at : ℕ) (bits : List Bool) (f : Found) : Type 0 where
  pub place : f.place ≡ at
  pub room : 32 + rules.block_bits ≤ length bits

pub place_by-place : (rules : Rules) (at : ℕ) (before : Option Before) (bits : List Bool) (polarity : Option Bool)
    (f : Found) → place_by rules at before bits polarity ≡ Some f → f.place ≡ at
place_by-place rules at before bits (Some inverted) f e =
    let is : found_at at false inverted bits ≡ f = cc in ap (λ (g : Found). g.place) (sym is)
place_by-place rules at None bits None f e = absurd (cc)
place_by-place rules at (Some before) bits None f e = go (nat_lt before.bridged rules.fly) e
  where
    go : (c : Bool) → cond c (Some (found_at at true before.inverted bits)) None ≡ Some f → f.place ≡ at
    go true e = let is : found_at at true before.inverted bits ≡ f = cc in ap (λ (g : Found). g.place) (sym is)
    go false e = absurd (cc)

pub place_at-stands : (rules : Rules) (at : ℕ) (before : Option Before) (bits : List Bool) (f : Found)
    → place_at rules at before bits ≡ Some f → Stands rules at bits f
place_at-stands rules at before bits f e = go (cases_lt (length bits) (32 + rules.block_bits))
  where
    go : (length bits < 32 + rules.block_bits) ⊎ (32 + rules.block_bits ≤ length bits) → Stands rules at bits f
    go (inl short) = let no : None ≡ Some f = sym (place_at-short rules at before bits short) ∙ e in absurd (cc)
    go (inr room) =
        record {
          place = place_by-place rules at before bits (place_polarity rules before bits) f
              (sym (place_at-room rules at before bits room) ∙ e);
          room = room;
        }

pub later : (at : ℕ) (fs : List Found) → AllByRecursion (λ f. at + 1 ≤ f.place) fs → AllByRecursion (λ f. at ≤ f.place) fs
later at [] all = tt
later at (f ∷ fs) all = (let one = all.0 in omega arith, later at fs all.1)

-- these places, where they are searched for, are not settled in the bits up to `end`
abbrev pub AreAfter : Rules → ℕ → List Found → Type 0
AreAfter rules end = AllByRecursion (λ f. end < f.place + settled_by rules.verify rules.block_bits)

pub past-of : (rules : Rules) (end at : ℕ) (fs : List Found) → end < at + settled_by rules.verify rules.block_bits
    → AllByRecursion (λ f. at ≤ f.place) fs → AreAfter rules end fs
past-of rules end at [] short all = tt
past-of rules end at (f ∷ fs) short all = (let one = all.0 in omega arith, past-of rules end at fs short all.1)

pub past-same : (rules : Rules) (end end' : ℕ) (fs : List Found) → end ≡ end' → AreAfter rules end fs
    → AreAfter rules end' fs
past-same rules end end' fs same all = subst (λ (n : ℕ). AreAfter rules n fs) same all

-- no place stands before the first bit
pub places_from-start : (rules : Rules) (at skip : ℕ) (before : Option Before) (bits : List Bool)
    → AllByRecursion (λ f. at ≤ f.place) (places_from rules at skip before bits)
places_from-start rules at skip before [] =
    subst (λ (fs : List Found). AllByRecursion (λ f. at ≤ f.place) fs) (sym (places_from-nil rules at skip before)) tt
places_from-start rules at (suc skip) before (b ∷ bits) =
    subst (λ (fs : List Found). AllByRecursion (λ f. at ≤ f.place) fs)
    (sym (places_from-inside rules at skip before b bits))
    (later at (places_from rules (at + 1) skip before bits) (places_from-start rules (at + 1) skip before bits))
places_from-start rules at zero before (b ∷ bits) =
    here (λ skip since. later at (places_from rules (at + 1) skip since bits)
    (places_from-start rules (at + 1) skip since bits)) (seen (place_at rules at before (b ∷ bits)))
  where
    here : ((skip : ℕ) (before : Option Before) → AllByRecursion (λ f. at ≤ f.place)
        (places_from rules (at + 1) skip before bits))
        → Seen (place_at rules at before (b ∷ bits)) → AllByRecursion (λ f. at ≤ f.place)
        (places_from rules at 0 before (b ∷ bits))
    here next (none e) =
        subst (λ (fs : List Found). AllByRecursion (λ f. at ≤ f.place) fs)
        (sym (places_from-miss rules at before b bits e)) (next 0 None)
    here next (some f e) =
        let s = place_at-stands rules at before (b ∷ bits) f e in
        subst (λ (fs : List Found). AllByRecursion (λ f. at ≤ f.place) fs)
        (sym (places_from-one rules at before b bits f e))
        (omega (arith, s.place), next (31 + rules.block_bits) (Some (before_next before f)))

-- ---- each place takes the bits of a marker and of a codeblock

pub places_from-room : (rules : Rules) (at skip : ℕ) (before : Option Before) (bits : List Bool)
    → length (places_from rules at skip before bits) * (32 + rules.block_bits) ≤ length bits - skip
places_from-room rules at skip before [] =
    subst (λ (fs : List Found). length fs * (32 + rules.block_bits) ≤ 0 - skip)
    (sym (places_from-nil rules at skip before)) (omega arith)
places_from-room rules at (suc skip) before (b ∷ bits) =
    let more = places_from-room rules (at + 1) skip before bits in
    subst (λ (fs : List Found). length fs * (32 + rules.block_bits) ≤ suc (length bits) - suc skip)
    (sym (places_from-inside rules at skip before b bits)) (omega (arith, more))
places_from-room rules at zero before (b ∷ bits) =
    here (λ skip since. places_from-room rules (at + 1) skip since bits) (seen (place_at rules at before (b ∷ bits)))
  where
    here : ((skip : ℕ) (before : Option Before) → length (places_from rules (at + 1) skip before bits) *
        (32 + rules.block_bits) ≤ length bits - skip)
        → Seen (place_at rules at before (b ∷ bits)) → length (places_from rules at 0 before (b ∷ bits)) *
        (32 + rules.block_bits) ≤ suc (length bits) - 0
    here next (none e) =
        let more = next 0 None in
        subst (λ (fs : List Found). length fs * (32 + rules.block_bits) ≤ suc (length bits) - 0)
        (sym (places_from-miss rules at before b bits e)) (omega (arith, more))
    here next (some f e) =
        let s = place_at-stands rules at before (b ∷ bits) f e in
        let more = next (31 + rules.block_bits) (Some (before_next before f)) in
        subst (λ (fs : List Found). length fs * (32 + rules.block_bits) ≤ suc (length bits) - 0)
        (sym (places_from-one rules at before b bits f e)) (omega (arith, more, s.room))

pub places-room : (rules : Rules) (bits : List Bool) → length (places rules bits) * (32 + rules.block_bits)
    ≤ length bits
places-room rules bits = omega (arith, places_from-room rules 0 0 None bits)

-- ---- a longer list

-- Its places are first those of the shorter one. The others are not settled there, and `more` bits
-- more have few of them.
pub record GoesOn (rules : Rules) (end more : ℕ) (all first : List Found) : Type 0 where
  pub rest : List Found
  pub is : all ≡ first ++ rest
  pub past : AreAfter rules end rest
  pub few : length rest * (32 + rules.block_bits) < settled_by rules.verify rules.block_bits + more

pub places_from-append : (rules : Rules) (at skip : ℕ) (before : Option Before) (bits more : List Bool)
    → GoesOn rules (at + length bits) (length more) (places_from rules at skip before (bits ++ more))
    (places_from rules at skip before bits)
places_from-append rules at skip before [] more = let whole = settled-room rules in record {
  rest = places_from rules at skip before more;
  is = ap (λ l. l ++ places_from rules at skip before more) (sym (places_from-nil rules at skip before));
  past =
      past-of rules (at + 0) at (places_from rules at skip before more) (omega arith)
      (places_from-start rules at skip before more);
  few = omega (arith, places_from-room rules at skip before more);
}
places_from-append rules at (suc skip) before (b ∷ bits) more =
    let go = places_from-append rules (at + 1) skip before bits more in record {
      rest = go.rest;
      is =
          places_from-inside rules at skip before b (bits ++ more) ∙ go.is
          ∙ ap (λ l. l ++ go.rest) (sym (places_from-inside rules at skip before b bits));
      past = past-same rules (at + 1 + length bits) (at + suc (length bits)) go.rest (omega arith) go.past;
      few = go.few;
    }
places_from-append rules at zero before (b ∷ bits) more =
    roomy (λ skip since. places_from-append rules (at + 1) skip since bits more) before
    (cases_lt (length (b ∷ bits)) (room_of rules before))
  where
    here : (before : Option Before)
        → ((skip : ℕ) (before : Option Before) → GoesOn rules (at + 1 + length bits) (length more)
        (places_from rules (at + 1) skip before (bits ++ more)) (places_from rules (at + 1) skip before bits))
        → place_at rules at before (b ∷ (bits ++ more)) ≡ place_at rules at before (b ∷ bits)
        → Seen (place_at rules at before (b ∷ bits))
        → GoesOn rules (at + length (b ∷ bits)) (length more) (places_from rules at 0 before ((b ∷ bits) ++ more))
        (places_from rules at 0 before (b ∷ bits))
    here before next same (none e) =
        let go = next 0 None in record {
          rest = go.rest;
          is =
              places_from-miss rules at before b (bits ++ more) (same ∙ e) ∙ go.is
              ∙ ap (λ l. l ++ go.rest) (sym (places_from-miss rules at before b bits e));
          past = past-same rules (at + 1 + length bits) (at + suc (length bits)) go.rest (omega arith) go.past;
          few = go.few;
        }
    here before next same (some f e) =
        let go = next (31 + rules.block_bits) (Some (before_next before f)) in record {
          rest = go.rest;
          is = places_from-one rules at before b (bits ++ more) f (same ∙ e) ∙ ap (λ l. f ∷ l) go.is
              ∙ ap (λ l. l ++ go.rest) (sym (places_from-one rules at before b bits f e));
          past = past-same rules (at + 1 + length bits) (at + suc (length bits)) go.rest (omega arith) go.past;
          few = go.few;
        }

    short : (before : Option Before) → length (b ∷ bits) < settled_by rules.verify rules.block_bits
        → places_from rules at 0 before (b ∷ bits) ≡ []
        → GoesOn rules (at + length (b ∷ bits)) (length more) (places_from rules at 0 before ((b ∷ bits) ++ more))
        (places_from rules at 0 before (b ∷ bits))
    short before few empty = record {
      rest = places_from rules at 0 before ((b ∷ bits) ++ more);
      is = ap (λ l. l ++ places_from rules at 0 before ((b ∷ bits) ++ more)) (sym empty);
      past =
          past-of rules (at + length (b ∷ bits)) at (places_from rules at 0 before ((b ∷ bits) ++ more)) (omega arith)
          (places_from-start rules at 0 before ((b ∷ bits) ++ more));
      few = omega (arith, few, places_from-room rules at 0 before ((b ∷ bits) ++ more), length-append (b ∷ bits) more);
    }

    roomy : ((skip : ℕ) (before : Option Before) → GoesOn rules (at + 1 + length bits) (length more)
        (places_from rules (at + 1) skip before (bits ++ more)) (places_from rules (at + 1) skip before bits))
        → (before : Option Before) → (length (b ∷ bits) < room_of rules before)
        ⊎ (room_of rules before ≤ length (b ∷ bits))
        → GoesOn rules (at + length (b ∷ bits)) (length more) (places_from rules at 0 before ((b ∷ bits) ++ more))
        (places_from rules at 0 before (b ∷ bits))
    roomy next None (inl few) = short None few (places_from-unsettled rules at (b ∷ bits) few)
    roomy next (Some before) (inl few) =
        let whole = settled-room rules in
        short (Some before) (omega arith) (places_from-short rules at (Some before) (b ∷ bits) few)
    roomy next before (inr room) =
        here before next (place_at-append rules at before (b ∷ bits) more room)
        (seen (place_at rules at before (b ∷ bits)))

pub places-append : (rules : Rules) (bits more : List Bool)
    → GoesOn rules (length bits) (length more) (places rules (bits ++ more)) (places rules bits)
places-append rules bits more =
    let go = places_from-append rules 0 0 None bits more in
    record {
      rest = go.rest;
      is = go.is;
      past = past-same rules (0 + length bits) (length bits) go.rest
          (omega arith) go.past;
      few = go.few;
    }

-- the codeblock of a place ends before `end`
abbrev pub EndBefore : Rules → ℕ → List Found → Type 0
EndBefore rules end = AllByRecursion (λ f. f.place + 32 + rules.block_bits ≤ end)

pub places_from-end : (rules : Rules) (at skip : ℕ) (before : Option Before) (bits : List Bool)
    → EndBefore rules (at + length bits) (places_from rules at skip before bits)
places_from-end rules at skip before [] =
    subst (λ (fs : List Found). EndBefore rules (at + 0) fs) (sym (places_from-nil rules at skip before)) tt
places_from-end rules at (suc skip) before (b ∷ bits) =
    let there : at + 1 + length bits ≡ at + suc (length bits) = omega arith in
    subst (λ (fs : List Found). EndBefore rules (at + suc (length bits)) fs)
    (sym (places_from-inside rules at skip before b bits))
    (subst (λ (n : ℕ). EndBefore rules n (places_from rules (at + 1) skip before bits)) there
    (places_from-end rules (at + 1) skip before bits))
places_from-end rules at zero before (b ∷ bits) =
    here (λ skip since. places_from-end rules (at + 1) skip since bits) (seen (place_at rules at before (b ∷ bits)))
  where
    there : at + 1 + length bits ≡ at + suc (length bits)
    there = omega arith

    here : ((skip : ℕ) (before : Option Before) → EndBefore rules (at + 1 + length bits)
        (places_from rules (at + 1) skip before bits))
        → Seen (place_at rules at before (b ∷ bits)) → EndBefore rules (at + suc (length bits))
        (places_from rules at 0 before (b ∷ bits))
    here next (none e) =
        subst (λ (fs : List Found). EndBefore rules (at + suc (length bits)) fs)
        (sym (places_from-miss rules at before b bits e))
        (subst (λ (n : ℕ). EndBefore rules n (places_from rules (at + 1) 0 None bits)) there (next 0 None))
    here next (some f e) =
        let s = place_at-stands rules at before (b ∷ bits) f e in
        subst (λ (fs : List Found). EndBefore rules (at + suc (length bits)) fs)
        (sym (places_from-one rules at before b bits f e)) (
          omega (arith, s.place, s.room),
          subst (λ (n : ℕ). EndBefore rules n (places_from rules (at + 1) (31 + rules.block_bits)
              (Some (before_next before f)) bits)) there (next (31 + rules.block_bits) (Some (before_next before f))),
        )

pub places-end : (rules : Rules) (bits : List Bool) → EndBefore rules (length bits) (places rules bits)
places-end rules bits =
    subst (λ (n : ℕ). EndBefore rules n (places rules bits)) (omega arith) (places_from-end rules 0 0 None bits)

-- the bits of `count` codeblocks more, with their markers, bring at most `count` places more, and
-- those that they verify
pub places-few : (rules : Rules) (bits more : List Bool) (count : ℕ) → length more ≤ count * (32 + rules.block_bits)
    → length (places rules (bits ++ more)) ≤ length (places rules bits) + count + rules.verify
places-few rules bits more count short =
    let go = places-append rules bits more in
    let all : length (places rules (bits ++ more)) ≡ length (places rules bits) + length go.rest = ap length go.is
    ∙ length-append (places rules bits) go.rest in
    let settled = settled-few rules in
    let few : length go.rest ≤ count + rules.verify = elim (cases_lt (count + rules.verify) (length go.rest)) as
    (λ _. length go.rest ≤ count + rules.verify) [
      | inl many ↦ (
          let one : count + rules.verify + 1 ≤ length go.rest = omega (arith, many) in
          absurd (omega (arith, mul-le-mul_right (32 + rules.block_bits) one, go.few, short, settled))
          )
      | inr there ↦ there
    ] in
    omega (arith, all, few)

-- ---- what follows the places of a prefix
drop-prefix : (prefix rest : List Found) → drop (length prefix) (prefix ++ rest) ≡ rest
drop-prefix [] rest = refl
drop-prefix (f ∷ prefix) rest = drop-prefix prefix rest

after-prefix : (rules : Rules) (bits more : List Bool) → drop (length (places rules bits))
    (places rules (bits ++ more)) ≡ (places-append rules bits more).rest
after-prefix rules bits more =
    let go = places-append rules bits more in
    ap (drop (length (places rules bits))) go.is ∙ drop-prefix (places rules bits) go.rest

pub places-goes_on : (rules : Rules) (bits more : List Bool)
    → places rules (bits ++ more) ≡ places rules bits
    ++ drop (length (places rules bits)) (places rules (bits ++ more))
places-goes_on rules bits more =
    (places-append rules bits more).is ∙ ap (λ l. places rules bits ++ l) (sym (after-prefix rules bits more))

pub places-past : (rules : Rules) (bits more : List Bool)
    → AllByRecursion (λ f. length bits < f.place + settled_by rules.verify rules.block_bits)
    (drop (length (places rules bits)) (places rules (bits ++ more)))
places-past rules bits more =
    subst (AreAfter rules (length bits)) (sym (after-prefix rules bits more)) (places-append rules bits more).past
