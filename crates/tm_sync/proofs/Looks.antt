-- What looks back at markers show.
use Rattle.std.proofs.Common.{◌≡◌, ℕ, zero, suc, ◌+◌, ◌-◌, ◌*◌, ◌%◌, ◌^◌, ◌<◌, ◌≤◌, ◌==◌, Bool, true, false, cond, ◌&&◌, List, [], ◌∷◌, ◌++◌, length, take, drop, get_or, refl, sym, ap, ◌∙◌, subst, arith, bit_or, Option, Some, None, length-drop, ◌⊎◌, inl, inr}
use mir.Val.{bool_byte}
use mathlib.Core.Bool.{beq}
use Rattle.std.specs.Option.{option_map}
use Rattle.std.proofs.lemmas.Bool.Decides.{nat_tests}
use Rattle.std.proofs.lemmas.List.{drop-drop, length-take-le, take-append-drop, take_all, take_more, get_or-drop}
use Rattle.tm_base.specs.Bits.{number_of}
use Rattle.tm_sync.specs.declared.found.Awaited.{Awaited}
use Rattle.tm_sync.specs.Places.{Rules, match_of, matches_in, are_verified, verified, verify_bits, found_at, place_by}
use Rattle.tm_sync.specs.Searching.{Searching, Recalls, awaited_at}
use Rattle.tm_sync.proofs.Numbers.{value_from, value-lt, number-value}
use Rattle.tm_sync.proofs.Sliding.{byte-number, received-push}
use Rattle.tm_sync.proofs.Steps.{match_of-append, are_verified-more}
use Rattle.tm_sync.proofs.Longer.{place_by-append}
use Rattle.tm_sync.proofs.FirstPlaces.{here}
use Rattle.tm_sync.proofs.Recent.{received-last}

-- ---- the 32 bits before the last `back` ones
-- the last 32 bits
pub received-now : (s : Searching) (room : List ℕ) (bits : List Bool) (from back : ℕ) → Recalls s room bits from
    → back ≡ 0 → from + 32 + back ≤ length bits
    → s.received ≡ number_of (take 32 (drop (length bits - (32 + back)) bits))
received-now s room bits from back r none there =
    let left = length-drop (length bits - 32) bits in
    let at : length bits - 32 ≡ length bits - (32 + back) = omega arith in
    received-last s.received bits (omega arith) r.received ∙ ap number_of
    (sym (take_all 32 (drop (length bits - 32) bits) (omega arith)))
    ∙ ap (λ n. number_of (take 32 (drop n bits))) at

-- where the room is empty no bits are looked back
pub received-empty : (s : Searching) (room : List ℕ) (bits : List Bool) (from back : ℕ) → Recalls s room bits from
    → length room ≡ 0
    → (back ≡ 0) ⊎ ((32 ≤ back) × (back ≤ verify_bits s.rules)) → back ≡ 0
received-empty s room bits from back r empty (inl none) = none
received-empty s room bits from back r empty (inr (long, few)) = let size = r.sized in absurd (omega arith)

-- one bit more is read from the room
pub received-more : (s : Searching) (room : List ℕ) (bits : List Bool) (from back k at received : ℕ)
    → Recalls s room bits from → 32 ≤ back → back ≤ verify_bits s.rules → from + 32 + back ≤ length bits
    → k < 32 → at ≡ (length bits - (32 + back) + k) % length room
    → received ≡ value_from 0 (take k (drop (length bits - (32 + back)) bits)) % 2 ^ 32
    → bit_or (received * 2 % 2 ^ 32) (get_or room at 0) ≡ value_from 0
    (take (k + 1) (drop (length bits - (32 + back)) bits)) % 2 ^ 32
received-more s room bits from back k at received r long few there below at_is is =
    let n : ℕ = length bits - (32 + back) in
    let size = r.sized in
    let left = length-drop n bits in
    let b : Bool = get_or bits (n + k) false in
    let held : get_or room at 0 ≡ bool_byte b =
    ap (λ j. get_or room j 0) at_is ∙ r.recent (n + k) (omega arith) (omega arith) (omega arith)
    ∙ sym (byte-number b) in
    let next : take (k + 1) (drop n bits) ≡ take k (drop n bits) ++ b ∷ [] =
    take_more (drop n bits) k false (omega arith) ∙ ap (λ (x : Bool). take k (drop n bits) ++ x ∷ [])
    (get_or-drop n bits k false) in
    ap (bit_or (received * 2 % 2 ^ 32)) held ∙ received-push received b (take k (drop n bits)) is
    ∙ ap (λ l. value_from 0 l % 2 ^ 32) (sym next)

-- and so 32 are
pub received-whole : (received k : ℕ) (l : List Bool) → 32 ≤ k → k ≤ 32 → 32 ≤ length l
    → received ≡ value_from 0 (take k l) % 2 ^ 32 → received ≡ number_of (take 32 l)
received-whole received k l enough most long is =
    let all : k ≡ 32 = omega arith in
    let size : length (take 32 l) ≡ 32 = length-take-le 32 l long in
    let p : 2 ^ length (take 32 l) ≡ 4294967296 = ap (λ n. 2 ^ n) size in
    let small : value_from 0 (take 32 l) < 4294967296 = subst (λ n. value_from 0 (take 32 l) < n) p
    (value-lt (take 32 l)) in
    let here : received ≡ value_from 0 (take 32 l) % 2 ^ 32 = is ∙ ap (λ n. value_from 0 (take n l) % 2 ^ 32) all in
    let same : received ≡ value_from 0 (take 32 l) = omega arith in
    same ∙ sym (number-value (take 32 l))

pub zero-from-test : (n : ℕ) → (n == 0) ≡ true → n ≡ 0
zero-from-test n test = grind (arith, nat_tests)

-- how far back `count` codeblocks with their markers are
pub none-or : (count size most : ℕ) → count * (32 + size) ≤ most → (count * (32 + size) ≡ 0)
    ⊎ ((32 ≤ count * (32 + size)) × (count * (32 + size) ≤ most))
none-or zero size most few = inl (omega arith)
none-or (suc count) size most few = inr (omega arith, few)

pub back-or : (left size most : ℕ) → 0 < left → left * (32 + size) ≤ most
    → (((left - 1) * (32 + size) ≡ 0) ⊎ ((32 ≤ (left - 1) * (32 + size)) × ((left - 1) * (32 + size) ≤ most)))
    × ((left - 1) * (32 + size) ≤ most)
back-or zero size most any few = absurd (omega arith)
back-or (suc left) size most any few =
    let one : suc left - 1 ≡ left = omega arith in
    subst (λ (n : ℕ). ((n * (32 + size) ≡ 0) ⊎ ((32 ≤ n * (32 + size)) × (n * (32 + size) ≤ most)))
    × (n * (32 + size) ≤ most)) (sym one) (none-or left size most (omega arith), omega arith)

pub lag-or : (rules : Rules) (lag : ℕ) → lag ≡ verify_bits rules → (lag ≡ 0) ⊎ ((32 ≤ lag) × (lag ≤ verify_bits rules))
lag-or rules lag is =
    subst (λ (n : ℕ). (n ≡ 0) ⊎ ((32 ≤ n) × (n ≤ verify_bits rules))) (sym is)
    (none-or rules.verify rules.block_bits (verify_bits rules) (omega arith))

-- ---- whether further markers verify a place
-- whether a match is in this polarity, as a test says
pub polarity-test : (polarity inverted c : Bool) → beq polarity inverted ≡ c → matches_in (Some polarity) inverted ≡ c
polarity-test true true c is = is
polarity-test true false c is = is
polarity-test false true c is = is
polarity-test false false c is = is

pub match-received : (rules : Rules) (bits : List Bool) → 32 ≤ length bits
    → match_of rules (take 32 bits) ≡ match_of rules bits
match-received rules bits long =
    let size : length (take 32 bits) ≡ 32 = length-take-le 32 bits long in
    sym (ap (match_of rules) (sym (take-append-drop 32 bits))
    ∙ match_of-append rules (take 32 bits) (drop 32 bits) (omega arith))

-- the next of them is one codeblock with its marker nearer to the last 32 bits
pub verified-step : (rules : Rules) (inverted : Bool) (left : ℕ) (bits : List Bool) → 0 < left
    → left * (32 + rules.block_bits) + 32 ≤ length bits
    → are_verified rules inverted left (drop (length bits - (32 + left * (32 + rules.block_bits))) bits)
    ≡ (matches_in (match_of rules (drop (length bits - (32 + (left - 1) * (32 + rules.block_bits))) bits)) inverted
    && are_verified rules inverted (left - 1) (drop (length bits - (32 + (left - 1) * (32 + rules.block_bits))) bits))
verified-step rules inverted zero bits any room = absurd (omega arith)
verified-step rules inverted (suc left) bits any room =
    let u : ℕ = 32 + rules.block_bits in
    let one : left ≡ suc left - 1 = omega arith in
    let at : ℕ = length bits - (32 + suc left * u) in
    let size = length-drop at bits in
    let there : at + u ≡ length bits - (32 + left * u) = omega arith in
    let next : drop u (drop at bits) ≡ drop (length bits - (32 + left * u)) bits = drop-drop u at bits
    ∙ ap (λ n. drop n bits) there in
    are_verified-more rules inverted left (drop at bits) (omega arith)
    ∙ (λ i. matches_in (match_of rules (next i)) inverted && are_verified rules inverted left (next i))
    ∙ ap (λ (n : ℕ). matches_in (match_of rules (drop (length bits - (32 + n * u)) bits)) inverted && are_verified
    rules inverted n (drop (length bits - (32 + n * u)) bits)) one

-- ---- the place that they verify
-- a place that further markers verify, or none
abbrev pub kept : Rules → List Bool → Option Awaited → Option Awaited
kept rules bits None = None
kept rules bits (Some a) = cond (are_verified rules a.found.inverted rules.verify bits) (Some a) None

pub kept-here : (rules : Rules) (at : ℕ) (bits : List Bool) (o : Option Awaited) → 32 ≤ length bits
    → o ≡ option_map (awaited_at None) (place_by rules at None (take 32 bits) (match_of rules (take 32 bits)))
    → kept rules bits o ≡ option_map (awaited_at None) (here rules at None bits)
kept-here rules at bits o long is =
    ap (kept rules bits) (is ∙ ap (option_map (awaited_at None))
    (ap (place_by rules at None (take 32 bits)) (match-received rules bits long) ∙ same (match_of rules bits)))
    ∙ go (match_of rules bits)
  where
    size : length (take 32 bits) ≡ 32
    size = length-take-le 32 bits long

    same : (polarity : Option Bool)
        → place_by rules at None (take 32 bits) polarity ≡ place_by rules at None bits polarity
    same polarity =
        let long = size in
        sym (ap (λ l. place_by rules at None l polarity) (sym (take-append-drop 32 bits))
        ∙ place_by-append rules at None (take 32 bits) (drop 32 bits) polarity (omega arith))

    choose : (inverted c : Bool) → cond c (Some (awaited_at None (found_at at false inverted bits))) None
        ≡ option_map (awaited_at None) (place_by rules at None bits (cond c (Some inverted) None))
    choose inverted true = refl
    choose inverted false = refl

    go : (polarity : Option Bool) → kept rules bits (option_map (awaited_at None)
        (place_by rules at None bits polarity))
        ≡ option_map (awaited_at None) (place_by rules at None bits (verified rules bits polarity))
    go None = refl
    go (Some inverted) = choose inverted (are_verified rules inverted rules.verify bits)

pub kept-some : (rules : Rules) (bits : List Bool) (a : Awaited) (c : Bool)
    → are_verified rules a.found.inverted rules.verify bits ≡ c → kept rules bits (Some a) ≡ cond c (Some a) None
kept-some rules bits a c is = ap (λ (c : Bool). cond c (Some a) None) is
