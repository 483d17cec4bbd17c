-- How the last 32 bits match.
use Rattle.std.proofs.Common.{◌≡◌, ℕ, ◌+◌, ◌-◌, ◌<◌, ◌≤◌, ◌^◌, Bool, true, false, cond, ◌&&◌, nat_le, List, [], ◌∷◌, length, refl, sym, ap, ◌∙◌, arith, ⊎_elim, bit_xor, count_ones, Some, None, IsSome, is_some, take}
use Rattle.std.proofs.lemmas.Nat.{ones-le, xor_of_32}
use Rattle.std.proofs.lemmas.List.{take_all, length-take-le}
use Rattle.std.proofs.lemmas.Bool.{cases_lt}
use Rattle.std.proofs.lemmas.Bool.Decides.{nat_tests}
use Rattle.tm_base.specs.Bits.{number_of}
use Rattle.tm_sync.specs.Bits.{flip, complement, difference, differences, marker_bits}
use Rattle.tm_sync.specs.Places.{Rules, match_of, wrong_bits}
use Rattle.tm_sync.specs.Searching.{far_count}
use Rattle.tm_sync.proofs.Numbers.{ones-marker, number-value, length-marker_bits}

pub few-ones : (x y : ℕ) → x < 2 ^ 32 → y < 2 ^ 32 → count_ones (bit_xor x y) ≤ 32
few-ones x y p q = ones-le 32 (bit_xor x y) (xor_of_32 x y p q)

whole : (bits : List Bool) → length bits ≡ 32 → wrong_bits false bits ≡ differences bits marker_bits
unfolding wrong_bits
whole bits long = ap (λ l. differences l marker_bits) (take_all 32 bits (omega arith))

pub wrong-upright : (received : ℕ) (bits : List Bool) → length bits ≡ 32 → received ≡ number_of bits
    → count_ones (bit_xor received 0x1ACFFC1D) ≡ wrong_bits false bits
wrong-upright received bits long is =
    ap (λ w. count_ones (bit_xor w 0x1ACFFC1D)) (is ∙ number-value bits) ∙ ones-marker bits long
    ∙ sym (whole bits long)

-- bits differ from others where they do not differ from the complement of these
both : (xs ys : List Bool) → length xs ≡ length ys → differences xs ys + differences xs (complement ys) ≡ length xs
both [] ys e = omega arith
both (x ∷ xs) [] e = absurd (omega arith)
both (x ∷ xs) (y ∷ ys) e = let more = both xs ys (omega arith) in let one = one-of x y in omega arith
  where
    one-of : (x y : Bool) → difference x y + difference x (flip y) ≡ 1
    one-of true true = refl
    one-of true false = refl
    one-of false true = refl
    one-of false false = refl

pub wrong-both : (bits : List Bool) → 32 ≤ length bits → wrong_bits false bits + wrong_bits true bits ≡ 32
unfolding wrong_bits
wrong-both bits long =
    let size = length-take-le 32 bits long in
    both (take 32 bits) marker_bits (size ∙ sym length-marker_bits) ∙ size

pub wrong-inverted : (wrong : ℕ) (bits : List Bool) → length bits ≡ 32 → wrong ≡ wrong_bits false bits
    → 32 - wrong ≡ wrong_bits true bits
wrong-inverted wrong bits long is = let sum = wrong-both bits (omega arith) in omega arith

pub match-upright : (rules : Rules) (bits : List Bool) (wrong : ℕ) → wrong ≡ wrong_bits false bits
    → wrong ≤ rules.tolerance → match_of rules bits ≡ Some false
unfolding match_of
match-upright rules bits wrong is near =
    let test : nat_le (wrong_bits false bits) rules.tolerance ≡ true = grind (arith, nat_tests) in
    ap (λ c. cond c (Some false) (cond (rules.either && nat_le (wrong_bits true bits) rules.tolerance)
    (Some true) None)) test

pub match-inverted : (rules : Rules) (bits : List Bool) (wrong other : ℕ) → wrong ≡ wrong_bits false bits
    → rules.tolerance < wrong → rules.either ≡ true
    → other ≡ wrong_bits true bits → other ≤ rules.tolerance → match_of rules bits ≡ Some true
unfolding match_of
match-inverted rules bits wrong other is far either also near =
    let test : nat_le (wrong_bits false bits) rules.tolerance ≡ false = grind (arith, nat_tests) in
    let second : nat_le (wrong_bits true bits) rules.tolerance ≡ true = grind (arith, nat_tests) in
    λ i. cond (test i) (Some false) (cond (either i && second i) (Some true) None)

-- the bits match in no way
pub match-given : (rules : Rules) (bits : List Bool) (wrong : ℕ) → wrong ≡ wrong_bits false bits
    → rules.tolerance < wrong → rules.either ≡ false → match_of rules bits ≡ None
unfolding match_of
match-given rules bits wrong is far given =
    let test : nat_le (wrong_bits false bits) rules.tolerance ≡ false = grind (arith, nat_tests) in
    λ i. cond (test i) (Some false) (cond (given i && nat_le (wrong_bits true bits) rules.tolerance) (Some true) None)

pub match-none : (rules : Rules) (bits : List Bool) (wrong other : ℕ) → wrong ≡ wrong_bits false bits
    → rules.tolerance < wrong
    → other ≡ wrong_bits true bits → rules.tolerance < other → match_of rules bits ≡ None
unfolding match_of
match-none rules bits wrong other is far also away =
    let test : nat_le (wrong_bits false bits) rules.tolerance ≡ false = grind (arith, nat_tests) in
    let second : nat_le (wrong_bits true bits) rules.tolerance ≡ false = grind (arith, nat_tests) in
    go rules.either test second
  where
    go : (either : Bool) → nat_le (wrong_bits false bits) rules.tolerance ≡ false
        → nat_le (wrong_bits true bits) rules.tolerance ≡ false
        → cond (nat_le (wrong_bits false bits) rules.tolerance) (Some false)
        (cond (either && nat_le (wrong_bits true bits) rules.tolerance) (Some true) None) ≡ None
    go true test second = λ i. cond (test i) (Some false) (cond (second i) (Some true) None)
    go false test second = λ i. cond (test i) (Some false) None

-- bits that are far from the marker and from the inverted marker match in no way
pub match-far : (rules : Rules) (bits : List Bool) (wrong : ℕ) → rules.tolerance ≤ 8 → length bits ≡ 32
    → wrong ≡ wrong_bits false bits → rules.tolerance < wrong
    → wrong < rules.tolerance + 1 + far_count rules.tolerance rules.either → match_of rules bits ≡ None
match-far rules bits wrong most long is far below = go rules.either refl below
  where
    go : (either : Bool) → rules.either ≡ either → wrong < rules.tolerance + 1 + far_count rules.tolerance either
        → match_of rules bits ≡ None
    go true e below = match-none rules bits wrong (32 - wrong) is far (wrong-inverted wrong bits long is) (omega arith)
    go false e below = match-given rules bits wrong is far e

-- others match
pub match-near : (rules : Rules) (bits : List Bool) (wrong : ℕ) → rules.tolerance ≤ 8 → length bits ≡ 32
    → wrong ≡ wrong_bits false bits
    → (rules.tolerance < wrong → rules.tolerance + 1 + far_count rules.tolerance rules.either ≤ wrong)
    → IsSome (match_of rules bits)
match-near rules bits wrong most long is near =
    ⊎_elim (λ many. far rules.either refl many (near many))
    (λ few. ap is_some (match-upright rules bits wrong is few)) (cases_lt rules.tolerance wrong)
  where
    far : (either : Bool) → rules.either ≡ either → rules.tolerance < wrong
        → rules.tolerance + 1 + far_count rules.tolerance either ≤ wrong → IsSome (match_of rules bits)
    far true e many near = ap is_some (match-inverted rules bits wrong (32 - wrong) is many e
        (wrong-inverted wrong bits long is) (omega arith))
    far false e many near = absurd (omega (arith, wrong-both bits (omega arith)))
