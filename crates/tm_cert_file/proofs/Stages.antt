-- What the tests of a window say of its octets, and of more of them.
use Rattle.std.proofs.Common.{◌≡◌, ℕ, ◌+◌, ◌<◌, ◌≤◌, Option, Bool, true, false, not, cond, List, [], ◌∷◌, ◌++◌, Some, None, length, refl, ap, ◌⊎◌, inl, inr, arith, ltb}
use Rattle.std.proofs.lemmas.Bool.{cases_lt}
use Rattle.std.proofs.lemmas.Bool.Decides.{nat_tests}
use Rattle.std.proofs.lemmas.List.{length-append}
use Rattle.tm_conv.specs.Path.{steps_size}
use Rattle.tm_cert_file.specs.declared.seen.Reason.{Reason}
use Rattle.tm_cert_file.specs.declared.seen.Reason.TheVariants.{Shape, Joint}
use Rattle.tm_cert_file.specs.declared.seen.Seen.TheVariants.{More}
use Rattle.tm_cert_file.specs.Window.{steps_in, kept_in, start_in, bits_in, soft_in, bits_end, soft_end, window_size}
use Rattle.tm_cert_file.specs.Before.{Rules, Before}
use Rattle.tm_cert_file.specs.Seen.{reason_in, is_over, has_shape, are_bits, is_joined, IsSeen}
use Rattle.tm_cert_file.proofs.Prefixes.{steps_in-prefix, kept_in-prefix, start_in-prefix, bits_in-prefix, soft_in-prefix}

-- ---- the tests of a window

unfoldable pub shape_of : Rules → Before → List ℕ → Bool
shape_of rules before octets = has_shape rules before.next (steps_in octets) (kept_in octets) (start_in octets)

unfoldable pub joined_of : Rules → Before → List ℕ → Bool
joined_of rules before octets = is_joined before (start_in octets) (soft_in rules.rate before.t octets)

-- no test fails whose octets are there
pub record Holds (rules : Rules) (before : Before) (octets : List ℕ) : Type 0 where
  pub due : 0 < length octets → is_over before.next ≡ false
  pub shape : 17 ≤ length octets → shape_of rules before octets ≡ true
  pub bits : bits_end (steps_in octets) ≤ length octets → are_bits (bits_in octets) ≡ true
  pub joined : soft_end rules.rate before.t (steps_in octets) ≤ length octets → joined_of rules before octets ≡ true

-- the tests are the same with more octets, where their octets are there
record AreSame (rules : Rules) (before : Before) (xs ys : List ℕ) : Type 0 where
  shape : 17 ≤ length xs → shape_of rules before (xs ++ ys) ≡ shape_of rules before xs
  steps : 17 ≤ length xs → steps_in (xs ++ ys) ≡ steps_in xs
  size : 17 ≤ length xs
      → steps_size rules.rate before.t (steps_in (xs ++ ys)) ≡ steps_size rules.rate before.t (steps_in xs)
  bits : bits_end (steps_in xs) ≤ length xs → are_bits (bits_in (xs ++ ys)) ≡ are_bits (bits_in xs)
  joined : soft_end rules.rate before.t (steps_in xs) ≤ length xs
      → joined_of rules before (xs ++ ys) ≡ joined_of rules before xs

are_same : (rules : Rules) (before : Before) (xs ys : List ℕ) → AreSame rules before xs ys
unfolding shape_of joined_of
are_same rules before xs ys = record {
  shape = λ long i. has_shape rules before.next (steps_in-prefix xs ys long i) (kept_in-prefix xs ys long i)
      (start_in-prefix xs ys long i);
  steps = λ long. steps_in-prefix xs ys long;
  size = λ long. ap (steps_size rules.rate before.t) (steps_in-prefix xs ys long);
  bits = λ long. ap are_bits (bits_in-prefix xs ys long);
  joined = λ long i. is_joined before (start_in-prefix xs ys (omega arith) i)
      (soft_in-prefix rules.rate before.t xs ys long i);
}

-- ---- the reason by the tests in turn

abbrev pub first_of : Rules → Before → List ℕ → Option Reason
first_of rules before octets =
    cond (is_over before.next) (Some Shape) (cond (ltb (length octets) 17) None
    (cond (not (shape_of rules before octets)) (Some Shape) (cond (ltb (length octets) (bits_end (steps_in octets))) None
    (cond (not (are_bits (bits_in octets))) (Some Shape)
    (cond (ltb (length octets) (soft_end rules.rate before.t (steps_in octets))) None
    (cond (not (joined_of rules before octets)) (Some Joint) None))))))

pub in_turn : (rules : Rules) (before : Before) (octets : List ℕ) → 0 < length octets
    → reason_in rules before octets ≡ first_of rules before octets
unfolding reason_in shape_of joined_of
in_turn rules before [] some = absurd (omega arith)
in_turn rules before (octet ∷ octets) some = refl

pub no_octets : (rules : Rules) (before : Before) (octets : List ℕ) → length octets < 1
    → reason_in rules before octets ≡ None
unfolding reason_in
no_octets rules before [] few = refl
no_octets rules before (octet ∷ octets) few = absurd (omega arith)

pub Holds-from_none : (rules : Rules) (before : Before) (octets : List ℕ) → reason_in rules before octets ≡ None
    → Holds rules before octets
Holds-from_none rules before octets e = let turn = in_turn rules before octets in grind (arith, nat_tests)

pub none-from_Holds : (rules : Rules) (before : Before) (octets : List ℕ) → Holds rules before octets
    → reason_in rules before octets ≡ None
none-from_Holds rules before octets holds =
    let turn = in_turn rules before octets in
    let none = no_octets rules before octets in
    grind (arith, nat_tests)

pub reason_in-cases : (rules : Rules) (before : Before) (octets : List ℕ)
    → (reason_in rules before octets ≡ None)
    ⊎ ((reason_in rules before octets ≡ Some Shape) ⊎ (reason_in rules before octets ≡ Some Joint))
reason_in-cases rules before octets =
    let turn = in_turn rules before octets in
    let none = no_octets rules before octets in
    grind (arith, nat_tests)

-- ---- more octets

-- a reason stays
pub reason_in-stays : (rules : Rules) (before : Before) (xs ys : List ℕ) (reason : Reason)
    → reason_in rules before xs ≡ Some reason → reason_in rules before (xs ++ ys) ≡ Some reason
reason_in-stays rules before xs ys reason e = elim (cases_lt 0 (length xs)) [
  | inl some ↦
      (let long = length-append xs ys in
      let same = are_same rules before xs ys in
      let was = in_turn rules before xs some in
      let is = in_turn rules before (xs ++ ys) (omega arith) in
      grind (arith, nat_tests))
  | inr none ↦ absurd (let is = no_octets rules before xs (omega arith) in cc)
]

-- and there is none once the soft octets are there
pub no_reason-more : (rules : Rules) (before : Before) (xs ys : List ℕ) → reason_in rules before xs ≡ None
    → soft_end rules.rate before.t (steps_in xs) ≤ length xs → reason_in rules before (xs ++ ys) ≡ None
no_reason-more rules before xs ys e there =
    let long = length-append xs ys in
    let same = are_same rules before xs ys in
    let was = in_turn rules before xs (omega arith) in
    let is = in_turn rules before (xs ++ ys) (omega arith) in
    grind (arith, nat_tests)

-- octets end no part of the window before this number
pub record IsGoal (rules : Rules) (before : Before) (octets : List ℕ) (goal : ℕ) : Type 0 where
  pub over : is_over before.next ≡ true → goal ≤ 1
  pub header : length octets < 17 → goal ≤ 17
  pub bits : 17 ≤ length octets → length octets < bits_end (steps_in octets) → goal ≤ bits_end (steps_in octets)
  pub soft : 17 ≤ length octets → length octets < soft_end rules.rate before.t (steps_in octets)
      → goal ≤ soft_end rules.rate before.t (steps_in octets)
  pub whole : 17 ≤ length octets → goal ≤ window_size rules.rate before.t (steps_in octets)

-- nothing is seen by fewer
pub open-more : (rules : Rules) (before : Before) (xs ys : List ℕ) (goal : ℕ) → IsSeen rules before xs More
    → IsGoal rules before xs goal → length xs + length ys < goal → IsSeen rules before (xs ++ ys) More
open-more rules before xs ys goal seen is less =
    let long = length-append xs ys in
    let same = are_same rules before xs ys in
    let holds = Holds-from_none rules before xs seen.0 in
    (none-from_Holds rules before (xs ++ ys) (grind (arith, nat_tests)), grind (arith, nat_tests))
