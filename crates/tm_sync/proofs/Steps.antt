-- One step of the search over a whole list of bits.
use Rattle.std.proofs.Common.{◌≡◌, ℕ, zero, suc, ◌+◌, ◌*◌, ◌<◌, ◌≤◌, Bool, true, false, cond, ◌&&◌, nat_le, List, [], ◌∷◌, ◌++◌, length, drop, refl, sym, ap, ◌∙◌, arith, Option, Some, None, length-append, length-drop, ◌⊎◌, inl, inr}
use Rattle.std.specs.Option.{option_map_or}
use Rattle.std.proofs.lemmas.List.{take-append-le, drop-append-le, drop-drop}
use Rattle.std.proofs.lemmas.Bool.{cases_lt}
use Rattle.std.proofs.lemmas.Bool.Decides.{nat_tests}
use Rattle.tm_sync.specs.declared.found.Found.{Found}
use Rattle.tm_sync.specs.Bits.{differences, in_polarity, marker_bits}
use Rattle.tm_sync.specs.declared.found.Before.{Before}
use Rattle.tm_sync.specs.Places.{Rules, wrong_bits, match_of, matches_in, are_verified, verified, place_polarity, verify_bits, settled_by, before_next, place_by, place_at, places_from}
use Rattle.tm_sync.specs.Searching.{deciding_bits}
use Rattle.tm_sync.specs.Marked.{ready}

pub places_from-nil : (rules : Rules) (at skip : ℕ) (before : Option Before) → places_from rules at skip before [] ≡ []
unfolding places_from
places_from-nil rules at skip before = refl

-- the bits of a codeblock are skipped
pub places_from-skip : (rules : Rules) (at : ℕ) (before : Option Before) (prefix rest : List Bool)
    → places_from rules at (length prefix) before (prefix ++ rest)
    ≡ places_from rules (at + length prefix) 0 before rest
unfolding places_from
places_from-skip rules at before [] rest = ap (λ n. places_from rules n 0 before rest) (omega arith)
places_from-skip rules at before (b ∷ prefix) rest =
    places_from-skip rules (at + 1) before prefix rest
    ∙ ap (λ n. places_from rules n 0 before rest) (omega arith)

-- where a place stands, its codeblock is skipped
pub places_from-one : (rules : Rules) (at : ℕ) (before : Option Before) (b : Bool) (bits : List Bool) (f : Found)
    → place_at rules at before (b ∷ bits) ≡ Some f
    → places_from rules at 0 before (b ∷ bits) ≡ f ∷ places_from rules (at + 1) (31 + rules.block_bits)
    (Some (before_next before f)) bits
unfolding places_from
places_from-one rules at before b bits f e =
    ap (λ (o : Option Found). option_map_or (λ f. f ∷ places_from rules (at + 1) (31 + rules.block_bits)
    (Some (before_next before f)) bits) o
    (places_from rules (at + 1) 0 None bits)) e

-- where nothing stands, the search goes on at the next bit
pub places_from-miss : (rules : Rules) (at : ℕ) (before : Option Before) (b : Bool) (bits : List Bool)
    → place_at rules at before (b ∷ bits) ≡ None
    → places_from rules at 0 before (b ∷ bits) ≡ places_from rules (at + 1) 0 None bits
unfolding places_from
places_from-miss rules at before b bits e =
    ap (λ (o : Option Found). option_map_or (λ f. f ∷ places_from rules (at + 1) (31 + rules.block_bits)
    (Some (before_next before f)) bits) o
    (places_from rules (at + 1) 0 None bits)) e

-- after a place's codeblock the search goes on
pub places_from-hit : (rules : Rules) (at : ℕ) (before : Option Before) (prefix rest : List Bool) (f : Found)
    → length prefix ≡ 32 + rules.block_bits → place_at rules at before (prefix ++ rest) ≡ Some f
    → places_from rules at 0 before (prefix ++ rest) ≡ f ∷ places_from rules (at + 32 + rules.block_bits) 0
    (Some (before_next before f)) rest
places_from-hit rules at before [] rest f long e = absurd (omega arith)
places_from-hit rules at before (b ∷ prefix) rest f long e =
    let size : 31 + rules.block_bits ≡ length prefix = omega arith in
    places_from-one rules at before b (prefix ++ rest) f e
    ∙ ap (λ n. f ∷ places_from rules (at + 1) n (Some (before_next before f)) (prefix ++ rest)) size
    ∙ ap (λ fs. f ∷ fs) (places_from-skip rules (at + 1) (Some (before_next before f)) prefix rest)
    ∙ ap (λ n. f ∷ places_from rules n 0 (Some (before_next before f)) rest) (omega arith)

-- the polarity is that of the first 32 bits
pub wrong_bits-append : (inverted : Bool) (bits more : List Bool) → 32 ≤ length bits
    → wrong_bits inverted (bits ++ more) ≡ wrong_bits inverted bits
unfolding wrong_bits
wrong_bits-append inverted bits more long =
    ap (λ w. differences w (in_polarity inverted marker_bits)) (take-append-le 32 bits more long)

pub match_of-append : (rules : Rules) (bits more : List Bool) → 32 ≤ length bits
    → match_of rules (bits ++ more) ≡ match_of rules bits
unfolding match_of
match_of-append rules bits more long =
    let up = wrong_bits-append false bits more long in
    let down = wrong_bits-append true bits more long in
    λ i. cond (nat_le (up i) rules.tolerance) (Some false) (cond (rules.either && nat_le (down i) rules.tolerance)
    (Some true) None)

pub place_at-room : (rules : Rules) (at : ℕ) (before : Option Before) (bits : List Bool)
    → 32 + rules.block_bits ≤ length bits
    → place_at rules at before bits ≡ place_by rules at before bits (place_polarity rules before bits)
unfolding place_at
place_at-room rules at before bits room =
    let test : nat_le (32 + rules.block_bits) (length bits) ≡ true = grind (arith, nat_tests) in
    ap (λ c. cond c (place_by rules at before bits (place_polarity rules before bits)) None) test

pub place_at-short : (rules : Rules) (at : ℕ) (before : Option Before) (bits : List Bool)
    → length bits < 32 + rules.block_bits → place_at rules at before bits ≡ None
unfolding place_at
place_at-short rules at before bits short =
    let test : nat_le (32 + rules.block_bits) (length bits) ≡ false = grind (arith, nat_tests) in
    ap (λ c. cond c (place_by rules at before bits (place_polarity rules before bits)) None) test

-- where no codeblock has room, there is no place
pub places_from-short : (rules : Rules) (at : ℕ) (before : Option Before) (bits : List Bool)
    → length bits < 32 + rules.block_bits → places_from rules at 0 before bits ≡ []
places_from-short rules at before [] short = places_from-nil rules at 0 before
places_from-short rules at before (b ∷ bits) short =
    places_from-miss rules at before b bits (place_at-short rules at before (b ∷ bits) short)
    ∙ places_from-short rules (at + 1) None bits (omega arith)

pub places_from-inside : (rules : Rules) (at skip : ℕ) (before : Option Before) (b : Bool) (bits : List Bool)
    → places_from rules at (suc skip) before (b ∷ bits) ≡ places_from rules (at + 1) skip before bits
unfolding places_from
places_from-inside rules at skip before b bits = refl

-- ---- the markers that verify a place
are_verified-one : (rules : Rules) (inverted : Bool) (count : ℕ) (bits : List Bool) (long : Bool)
    → nat_le 32 (length (drop (32 + rules.block_bits) bits)) ≡ long
    → are_verified rules inverted (suc count) bits
    ≡ (long && (matches_in (match_of rules (drop (32 + rules.block_bits) bits)) inverted && are_verified rules
    inverted count (drop (32 + rules.block_bits) bits)))
unfolding are_verified
are_verified-one rules inverted count bits long e =
    ap (λ c. c && (matches_in (match_of rules (drop (32 + rules.block_bits) bits)) inverted && are_verified rules
    inverted count (drop (32 + rules.block_bits) bits))) e

pub are_verified-zero : (rules : Rules) (inverted : Bool) (bits : List Bool) → are_verified rules inverted 0 bits ≡ true
unfolding are_verified
are_verified-zero rules inverted bits = refl

-- the next marker is there, and then those after it
pub are_verified-more : (rules : Rules) (inverted : Bool) (count : ℕ) (bits : List Bool)
    → 32 + (32 + rules.block_bits) ≤ length bits
    → are_verified rules inverted (suc count) bits
    ≡ (matches_in (match_of rules (drop (32 + rules.block_bits) bits)) inverted && are_verified rules inverted count
    (drop (32 + rules.block_bits) bits))
are_verified-more rules inverted count bits room =
    let there = length-drop (32 + rules.block_bits) bits in
    are_verified-one rules inverted count bits true (grind (arith, nat_tests))

-- the next marker is not there
pub are_verified-past : (rules : Rules) (inverted : Bool) (count : ℕ) (bits : List Bool)
    → length bits < 32 + (32 + rules.block_bits) → are_verified rules inverted (suc count) bits ≡ false
are_verified-past rules inverted count bits few =
    let there = length-drop (32 + rules.block_bits) bits in
    are_verified-one rules inverted count bits false (grind (arith, nat_tests))

-- bits that come after the last of the markers change nothing
pub are_verified-append : (rules : Rules) (inverted : Bool) (count : ℕ) (bits more : List Bool)
    → count * (32 + rules.block_bits) + 32 ≤ length bits
    → are_verified rules inverted count (bits ++ more) ≡ are_verified rules inverted count bits
are_verified-append rules inverted zero bits more long =
    are_verified-zero rules inverted (bits ++ more) ∙ sym (are_verified-zero rules inverted bits)
are_verified-append rules inverted (suc count) bits more long =
    let u : ℕ = 32 + rules.block_bits in
    let whole : 32 + u ≤ length bits = omega arith in
    let next : drop u (bits ++ more) ≡ drop u bits ++ more = drop-append-le u bits more (omega arith) in
    let left = length-drop u bits in
    are_verified-more rules inverted count (bits ++ more) (omega (arith, length-append bits more))
    ∙ (λ i. matches_in (match_of rules (next i)) inverted && are_verified rules inverted count (next i))
    ∙ (λ i. matches_in (match_of-append rules (drop u bits) more (omega arith) i) inverted && are_verified-append
    rules inverted count (drop u bits) more (omega arith) i)
    ∙ sym (are_verified-more rules inverted count bits whole)

and-false : (b : Bool) → (b && false) ≡ false
and-false true = refl
and-false false = refl

-- where the last of the markers is not there, or matches in no way, nothing is verified
pub are_verified-short : (rules : Rules) (inverted : Bool) (count : ℕ) (bits : List Bool)
    → length bits < suc count * (32 + rules.block_bits) + 32 → are_verified rules inverted (suc count) bits ≡ false
are_verified-short rules inverted zero bits few = are_verified-past rules inverted zero bits (omega arith)
are_verified-short rules inverted (suc count) bits few =
    go (λ less. are_verified-short rules inverted count (drop (32 + rules.block_bits) bits) less)
    (cases_lt (length bits) (32 + (32 + rules.block_bits)))
  where
    go : (length (drop (32 + rules.block_bits) bits) < suc count * (32 + rules.block_bits) + 32
        → are_verified rules inverted (suc count) (drop (32 + rules.block_bits) bits) ≡ false)
        → (length bits < 32 + (32 + rules.block_bits)) ⊎ (32 + (32 + rules.block_bits) ≤ length bits)
        → are_verified rules inverted (suc (suc count)) bits ≡ false
    go next (inl past) = are_verified-past rules inverted (suc count) bits past
    go next (inr room) =
        let left = length-drop (32 + rules.block_bits) bits in
        are_verified-more rules inverted (suc count) bits room
        ∙ ap (λ c. matches_in (match_of rules (drop (32 + rules.block_bits) bits)) inverted && c) (next (omega arith))
        ∙ and-false (matches_in (match_of rules (drop (32 + rules.block_bits) bits)) inverted)

pub are_verified-far : (rules : Rules) (inverted : Bool) (count : ℕ) (bits : List Bool)
    → match_of rules (drop (suc count * (32 + rules.block_bits)) bits) ≡ None
    → are_verified rules inverted (suc count) bits ≡ false
are_verified-far rules inverted zero bits far = go (cases_lt (length bits) (32 + (32 + rules.block_bits)))
  where
    go : (length bits < 32 + (32 + rules.block_bits)) ⊎ (32 + (32 + rules.block_bits) ≤ length bits)
        → are_verified rules inverted (suc zero) bits ≡ false
    go (inl past) = are_verified-past rules inverted zero bits past
    go (inr room) =
        let one : suc zero * (32 + rules.block_bits) ≡ 32 + rules.block_bits = omega arith in
        are_verified-more rules inverted zero bits room
        ∙ ap (λ w. matches_in w inverted && are_verified rules inverted zero (drop (32 + rules.block_bits) bits))
        (ap (λ n. match_of rules (drop n bits)) (sym one) ∙ far)
are_verified-far rules inverted (suc count) bits far =
    let split : 32 + rules.block_bits + suc count * (32 + rules.block_bits)
    ≡ suc (suc count) * (32 + rules.block_bits) = omega arith in
    go (are_verified-far rules inverted count (drop (32 + rules.block_bits) bits)
    (ap (match_of rules) (drop-drop (suc count * (32 + rules.block_bits)) (32 + rules.block_bits) bits
    ∙ ap (λ n. drop n bits) split) ∙ far))
    (cases_lt (length bits) (32 + (32 + rules.block_bits)))
  where
    go : are_verified rules inverted (suc count) (drop (32 + rules.block_bits) bits) ≡ false
        → (length bits < 32 + (32 + rules.block_bits)) ⊎ (32 + (32 + rules.block_bits) ≤ length bits)
        → are_verified rules inverted (suc (suc count)) bits ≡ false
    go next (inl past) = are_verified-past rules inverted (suc count) bits past
    go next (inr room) =
        are_verified-more rules inverted (suc count) bits room
        ∙ ap (λ c. matches_in (match_of rules (drop (32 + rules.block_bits) bits)) inverted && c) next
        ∙ and-false (matches_in (match_of rules (drop (32 + rules.block_bits) bits)) inverted)

pub matches_in-is : (polarity : Option Bool) (inverted : Bool) → matches_in polarity inverted ≡ true
    → polarity ≡ Some inverted
matches_in-is None inverted e = absurd (cc)
matches_in-is (Some true) true e = refl
matches_in-is (Some true) false e = absurd (cc)
matches_in-is (Some false) true e = absurd (cc)
matches_in-is (Some false) false e = refl

-- ---- the polarity in which a place stands
verified-by : (rules : Rules) (bits : List Bool) (polarity : Option Bool) (fits : Bool)
    → ((inverted : Bool) → are_verified rules inverted rules.verify bits ≡ fits)
    → verified rules bits polarity ≡ (cond fits polarity None)
verified-by rules bits None true each = refl
verified-by rules bits None false each = refl
verified-by rules bits (Some inverted) true each = ap (λ c. cond c (Some inverted) None) (each inverted)
verified-by rules bits (Some inverted) false each = ap (λ c. cond c (Some inverted) None) (each inverted)

-- where no further markers are asked for, it is that in which the first 32 bits match
pub place_polarity-zero : (rules : Rules) (before : Option Before) (bits : List Bool) → rules.verify ≡ 0
    → place_polarity rules before bits ≡ match_of rules bits
place_polarity-zero rules (Some before) bits none = refl
place_polarity-zero rules None bits none =
    verified-by rules bits (match_of rules bits) true (λ inverted. ap (λ n. are_verified rules inverted n bits) none
    ∙ are_verified-zero rules inverted bits)

-- where the bits that decide it are there, it is the same whatever comes after
pub place_polarity-append : (rules : Rules) (before : Option Before) (bits more : List Bool)
    → deciding_bits rules before ≤ length bits
    → place_polarity rules before (bits ++ more) ≡ place_polarity rules before bits
place_polarity-append rules (Some before) bits more long = match_of-append rules bits more long
place_polarity-append rules None bits more long =
    ap (verified rules (bits ++ more)) (match_of-append rules bits more (omega arith)) ∙ go (match_of rules bits)
  where
    go : (polarity : Option Bool) → verified rules (bits ++ more) polarity ≡ verified rules bits polarity
    go None = refl
    go (Some inverted) =
        ap (λ c. cond c (Some inverted) None)
        (are_verified-append rules inverted rules.verify bits more (omega arith))

-- where the last marker that is to verify it matches in no way, it is none
pub place_polarity-far : (rules : Rules) (bits : List Bool) → match_of rules (drop (verify_bits rules) bits) ≡ None
    → place_polarity rules None bits ≡ None
place_polarity-far rules bits far = go rules.verify refl
  where
    go : (count : ℕ) → rules.verify ≡ count → place_polarity rules None bits ≡ None
    go zero e =
        let none : verify_bits rules ≡ 0 = ap (λ n. n * (32 + rules.block_bits)) e ∙ omega arith in
        place_polarity-zero rules None bits e ∙ ap (λ n. match_of rules (drop n bits)) (sym none) ∙ far
    go (suc count) e =
        verified-by rules bits (match_of rules bits) false
        (λ inverted. ap (λ n. are_verified rules inverted n bits) e
        ∙ are_verified-far rules inverted count bits (ap (λ n. match_of rules
        (drop (n * (32 + rules.block_bits)) bits)) (sym e) ∙ far))

-- ---- where a place that is searched for is settled
pub settled-room : (rules : Rules) → 32 + rules.block_bits ≤ settled_by rules.verify rules.block_bits
settled-room rules = go rules.verify
  where
    go : (count : ℕ) → 32 + rules.block_bits ≤ settled_by count rules.block_bits
    go zero = omega arith
    go (suc count) = omega arith

pub settled-verified : (rules : Rules) → 32 + verify_bits rules ≤ settled_by rules.verify rules.block_bits
settled-verified rules = go rules.verify
  where
    go : (count : ℕ) → 32 + count * (32 + rules.block_bits) ≤ settled_by count rules.block_bits
    go zero = omega arith
    go (suc count) = omega arith

pub settled-few : (rules : Rules) → settled_by rules.verify rules.block_bits
    ≤ (rules.verify + 1) * (32 + rules.block_bits)
settled-few rules = go rules.verify
  where
    go : (count : ℕ) → settled_by count rules.block_bits ≤ (count + 1) * (32 + rules.block_bits)
    go zero = omega arith
    go (suc count) = omega arith

-- where it is not settled, nothing that is searched for is a place
pub place_at-unsettled : (rules : Rules) (at : ℕ) (bits : List Bool)
    → length bits < settled_by rules.verify rules.block_bits → place_at rules at None bits ≡ None
place_at-unsettled rules at bits few = go (cases_lt (length bits) (32 + rules.block_bits)) rules.verify refl few
  where
    go : (length bits < 32 + rules.block_bits) ⊎ (32 + rules.block_bits ≤ length bits) → (count : ℕ)
        → rules.verify ≡ count → length bits < settled_by count rules.block_bits → place_at rules at None bits ≡ None
    go (inl short) count e few = place_at-short rules at None bits short
    go (inr room) zero e few = absurd (omega arith)
    go (inr room) (suc count) e few =
        place_at-room rules at None bits room
        ∙ ap (place_by rules at None bits) (verified-by rules bits (match_of rules bits) false
        (λ inverted. ap (λ n. are_verified rules inverted n bits) e ∙ are_verified-short rules inverted count bits few))

pub places_from-unsettled : (rules : Rules) (at : ℕ) (bits : List Bool)
    → length bits < settled_by rules.verify rules.block_bits → places_from rules at 0 None bits ≡ []
places_from-unsettled rules at [] few = places_from-nil rules at 0 None
places_from-unsettled rules at (b ∷ bits) few =
    places_from-miss rules at None b bits (place_at-unsettled rules at (b ∷ bits) few)
    ∙ places_from-unsettled rules (at + 1) bits (omega arith)

-- where no codeblock ends right before the bits, none ends right before those after a prefix
pub ready-none : (prefix : List Bool) → ready prefix None ≡ None
ready-none [] = refl
ready-none (b ∷ prefix) = refl
