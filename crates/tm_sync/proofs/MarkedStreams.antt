-- The places in a stream of entries.
use Rattle.std.proofs.Common.{◌≡◌, ℕ, suc, ◌+◌, ◌<◌, ◌≤◌, Bool, true, false, cond, nat_lt, List, [], ◌∷◌, ◌++◌, length, take, drop, refl, sym, ap, subst, ◌∙◌, arith, Option, Some, None, append_assoc, length-append, ◌⊎◌, inl, inr}
use Rattle.std.proofs.lemmas.List.{append-nil, drop_at}
use Rattle.std.proofs.lemmas.Bool.{cases_lt}
use Rattle.std.proofs.lemmas.Bool.Decides.{nat_tests}
use Rattle.tm_sync.specs.declared.found.Before.{Before}
use Rattle.tm_sync.specs.Places.{Rules, wrong_bits, match_of, place_polarity, before_next, found_at, place_by, place_at, places_from, places}
use Rattle.tm_sync.proofs.Steps.{places_from-nil, places_from-miss, places_from-hit, wrong_bits-append, place_at-room, place_at-short, ready-none}
use Rattle.tm_sync.specs.Marked.{Entry, joined, ready, HasNoMarker, MayGap, MayBridge, place_by_marker, place_of, places_of, AreEntries, IsMarked}

-- no place stands where no marker matches and none may be bridged
pub none_at : (rules : Rules) (at : ℕ) (before : Option Before) (b : Bool) (bits gap : List Bool)
    → HasNoMarker rules before (b ∷ gap) (b ∷ bits) → MayGap rules before (b ∷ gap) (b ∷ bits)
    → place_at rules at before (b ∷ bits) ≡ None
none_at rules at before b bits gap none waits =
    go (cases_lt (length (b ∷ bits)) (32 + rules.block_bits)) before waits
    (λ room. none 0 (omega arith) (omega arith))
  where
    go : (length (b ∷ bits) < 32 + rules.block_bits) ⊎ (32 + rules.block_bits ≤ length (b ∷ bits))
        → (before : Option Before) → MayGap rules before (b ∷ gap) (b ∷ bits)
        → (32 + rules.block_bits ≤ length (b ∷ bits) → place_polarity rules before (b ∷ bits) ≡ None)
        → place_at rules at before (b ∷ bits) ≡ None
    go (inl short) before waits here = place_at-short rules at before (b ∷ bits) short
    go (inr room) None waits here =
        place_at-room rules at None (b ∷ bits) room ∙ ap (place_by rules at None (b ∷ bits)) (here room)
    go (inr room) (Some before) (inl enough) here =
        let test : nat_lt before.bridged rules.fly ≡ false = grind (arith, nat_tests) in
        place_at-room rules at (Some before) (b ∷ bits) room
        ∙ ap (place_by rules at (Some before) (b ∷ bits)) (here room)
        ∙ ap (λ c. cond c (Some (found_at at true before.inverted (b ∷ bits))) None) test
    go (inr room) (Some before) (inr short) here = absurd (omega arith)

-- the search goes past a gap
pub places_from-gap : (rules : Rules) (at : ℕ) (before : Option Before) (gap rest : List Bool)
    → HasNoMarker rules before gap (gap ++ rest) → MayGap rules before gap (gap ++ rest)
    → places_from rules at 0 before (gap ++ rest) ≡ places_from rules (at + length gap) 0 (ready gap before) rest
places_from-gap rules at before [] rest none waits = ap (λ n. places_from rules n 0 before rest) (omega arith)
places_from-gap rules at before (b ∷ gap) rest none waits =
    places_from-miss rules at before b (gap ++ rest) (none_at rules at before b (gap ++ rest) gap none waits)
    ∙ places_from-gap rules (at + 1) None gap rest
    (λ q below room. ap (λ before. place_polarity rules before (drop q (gap ++ rest))) (ready-none (take q gap))
    ∙ none (suc q) (omega arith) (omega arith)) (unguarded gap)
    ∙ (λ i. places_from rules (far i) 0 (ready-none gap i) rest)
  where
    far : at + 1 + length gap ≡ at + length (b ∷ gap)
    far = omega arith

    unguarded : (gap : List Bool) → MayGap rules None gap (gap ++ rest)
    unguarded [] = tt
    unguarded (c ∷ gap) = tt

-- the place that an entry's marker and block are
pub place_of-is : (rules : Rules) (at : ℕ) (before : Option Before) (e : Entry) (rest : List Bool) → length e.marker ≡ 32
    → length e.block ≡ rules.block_bits
    → MayBridge rules before e (match_of rules e.marker) → place_polarity rules (ready e.gap before)
    (e.marker ++ (e.block ++ rest)) ≡ match_of rules e.marker
    → place_at rules (at + length e.gap) (ready e.gap before) (e.marker ++ (e.block ++ rest))
    ≡ Some (place_of rules at before e)
place_of-is rules at before e rest long size may verified =
    place_at-room rules (at + length e.gap) (ready e.gap before) (e.marker ++ (e.block ++ rest))
    (omega (arith, length-append e.marker (e.block ++ rest), length-append e.block rest))
    ∙ ap (place_by rules (at + length e.gap) (ready e.gap before) (e.marker ++ (e.block ++ rest))) verified
    ∙ go before e.gap (match_of rules e.marker) may
  where
    same : (inverted : Bool) → wrong_bits inverted (e.marker ++ (e.block ++ rest)) ≡ wrong_bits inverted e.marker
    same inverted = wrong_bits-append inverted e.marker (e.block ++ rest) (omega arith)

    go : (before : Option Before) (gap : List Bool) (polarity : Option Bool)
        → MayBridge rules before (record e { gap = gap }) polarity
        → place_by rules (at + length e.gap) (ready gap before) (e.marker ++ (e.block ++ rest)) polarity
        ≡ Some (place_by_marker (at + length e.gap) before e polarity)
    go before gap (Some inverted) may =
        λ i. Some (record {
          place = at + length e.gap;
          distance = same inverted i;
          bridged = false;
          inverted = inverted;
        })
    go None gap None may = absurd may.1
    go (Some before) [] None may =
        let test : nat_lt before.bridged rules.fly ≡ true = grind (arith, nat_tests, may.1) in
        ap (λ c. cond c (Some (found_at (at + length e.gap) true before.inverted (e.marker ++ (e.block ++ rest))))
        None) test
        ∙ (λ i. Some (record {
          place = at + length e.gap;
          distance = same before.inverted i;
          bridged = true;
          inverted = before.inverted;
        }))
    go (Some before) (b ∷ gap) None may = let no : (b ∷ gap) ≡ [] = may.0 in absurd (cc)

place_is : (at : ℕ) (before : Option Before) (e : Entry) (polarity : Option Bool)
    → (place_by_marker at before e polarity).place ≡ at
place_is at before e (Some inverted) = refl
place_is at None e None = refl
place_is at (Some before) e None = refl

-- an entry's place is after its gap
pub place_of-place : (rules : Rules) (at : ℕ) (before : Option Before) (e : Entry)
    → (place_of rules at before e).place ≡ at + length e.gap
place_of-place rules at before e = place_is (at + length e.gap) before e (match_of rules e.marker)

-- the gap before a marker that matches says nothing of what follows the codeblock
pub after-ready : (rules : Rules) (at : ℕ) (before : Option Before) (e : Entry)
    → MayBridge rules before e (match_of rules e.marker)
    → before_next (ready e.gap before) (place_of rules at before e) ≡ before_next before (place_of rules at before e)
after-ready rules at before e may = go before e.gap (match_of rules e.marker) may
  where
    go : (before : Option Before) (gap : List Bool) (polarity : Option Bool)
        → MayBridge rules before (record e { gap = gap }) polarity
        → before_next (ready gap before) (place_by_marker (at + length e.gap) before e polarity)
        ≡ before_next before (place_by_marker (at + length e.gap) before e polarity)
    go before [] polarity may = refl
    go None (b ∷ gap) polarity may = refl
    go (Some before) (b ∷ gap) (Some inverted) may = refl
    go (Some before) (b ∷ gap) None may = let no : (b ∷ gap) ≡ [] = may.0 in absurd (cc)

-- the places in a stream of entries are the places of the entries
pub places_of-are : (rules : Rules) (at : ℕ) (before : Option Before) (entries : List Entry) (last : List Bool)
    → AreEntries rules at before entries last
    → places_from rules at 0 before (joined entries last) ≡ places_of rules at before entries
places_of-are rules at before [] last (none, waits) =
    let whole : last ++ [] ≡ last = append-nil last in
    let none' = subst (λ (bits : List Bool). HasNoMarker rules before last bits) (sym whole) none in
    let waits' = subst (λ (bits : List Bool). MayGap rules before last bits) (sym whole) waits in
    ap (places_from rules at 0 before) (sym whole)
    ∙ places_from-gap rules at before last [] none' waits' ∙ places_from-nil rules (at + length last) 0
    (ready last before)
places_of-are rules at before (e ∷ entries) last (one, more) =
    let f = place_of rules at before e in
    let rest = joined entries last in
    let split : e.marker ++ (e.block ++ rest) ≡ (e.marker ++ e.block) ++ rest =
    sym (append_assoc e.marker e.block rest) in
    let verified : place_polarity rules (ready e.gap before) (e.marker ++ (e.block ++ rest)) ≡ match_of rules e.marker =
    ap (place_polarity rules (ready e.gap before)) (sym (drop_at e.gap (e.marker ++ (e.block ++ rest))
    (length e.gap) refl)) ∙ one.verified in
    let here : place_at rules (at + length e.gap) (ready e.gap before) ((e.marker ++ e.block) ++ rest) ≡ Some f =
    ap (place_at rules (at + length e.gap) (ready e.gap before)) (sym split)
    ∙ place_of-is rules at before e rest one.marker one.block one.bridged verified in
    let ends : at + length e.gap + 32 + rules.block_bits ≡ f.place + 32 + rules.block_bits =
    ap (λ n. n + 32 + rules.block_bits) (sym (place_of-place rules at before e)) in
    places_from-gap rules at before e.gap (e.marker ++ (e.block ++ rest)) one.gap one.waits
    ∙ ap (places_from rules (at + length e.gap) 0 (ready e.gap before)) split
    ∙ places_from-hit rules (at + length e.gap) (ready e.gap before) (e.marker ++ e.block) rest f
    (length-append e.marker e.block ∙ omega (arith, one.marker, one.block)) here
    ∙ (λ i. f ∷ places_from rules (ends i) 0 (Some (after-ready rules at before e one.bridged i)) rest)
    ∙ ap (λ fs. f ∷ fs) (places_of-are rules (f.place + 32 + rules.block_bits)
    (Some (before_next before f)) entries last more)

-- the places in a marked stream are those of its entries
pub places-marked : (rules : Rules) (bits : List Bool) (entries : List Entry) (last : List Bool)
    → IsMarked rules bits entries last → places rules bits ≡ places_of rules 0 None entries
places-marked rules bits entries last marked =
    ap (places rules) marked.parts ∙ places_of-are rules 0 None entries last marked.are_entries
