-- Digits, one more at a time, up to a cap.
use Rattle.std.proofs.Common.{◌≡◌, ◌∙◌, sym, ap, ℕ, ◌+◌, ◌*◌, ◌-◌, ◌^◌, ◌<◌, ◌≤◌, Bool, true, ◌&&◌, List, [], ◌∷◌, length, drop, slice_index_or, min, arith, refl, nat_le, if◌then◌else◌}
use Rattle.std.proofs.lemmas.Bool.Decides.{nat_tests}
use Rattle.std.proofs.lemmas.List.{at_drop_more}
use Rattle.std.specs.Char.{digit_value, is_ascii_digit}
use Rattle.std.specs.List.{list_all}
use Rattle.std.specs.Str.Parse.{digits_value, digits_value_after}
use Rattle.tm_words.specs.Options.{no_number, is_numeral, number_of}

-- what exceeds the cap before more digits exceeds it after them
pub capped : (m n cap : ℕ) (digits : List ℕ) → min m cap ≡ min n cap
    → min (digits_value_after 10 m digits) cap ≡ min (digits_value_after 10 n digits) cap
capped m n cap [] same = same
capped m n cap (digit ∷ digits) same =
    capped (m * 10 + digit_value digit) (n * 10 + digit_value digit) cap digits (omega arith)

digit_value-digit : (code : ℕ) → is_ascii_digit code ≡ true → (48 ≤ code) × (digit_value code ≡ code - 48)
digit_value-digit code is_digit = (grind (arith, nat_tests), grind (arith, nat_tests))

-- one more digit, where the sum stops at the cap
pub one_more : (value product sum cap : ℕ) (digits : List ℕ) (i : ℕ) → i < length digits
    → is_ascii_digit (slice_index_or digits i 0) ≡ true
    → product ≡ min (value * 10) cap → sum ≡ min (product + (slice_index_or digits i 0 - 48)) cap
    → min (digits_value_after 10 sum (drop (i + 1) digits)) cap ≡ min (digits_value_after 10 value (drop i digits)) cap
one_more value product sum cap digits i below is_digit product_is sum_is =
    let digit = (digit_value-digit (slice_index_or digits i 0) is_digit).1 in
    capped sum (value * 10 + digit_value (slice_index_or digits i 0)) cap (drop (i + 1) digits) (omega arith)
    ∙ sym (at_drop_more (λ (left : List ℕ). min (digits_value_after 10 value left) cap) digits i 0 below)

-- the same for the test that each is a digit
pub one_more_digit : (digits : List ℕ) (i : ℕ) → i < length digits → is_ascii_digit (slice_index_or digits i 0) ≡ true
    → list_all is_ascii_digit (drop (i + 1) digits) ≡ list_all is_ascii_digit (drop i digits)
one_more_digit digits i below is_digit =
    ap (λ (first : Bool). first && list_all is_ascii_digit (drop (i + 1) digits)) (sym is_digit)
    ∙ sym (at_drop_more (list_all is_ascii_digit) digits i 0 below)

each_true : (a b c : Bool) → a ≡ true → b ≡ true → c ≡ true → (a && b && c) ≡ true
each_true a b c first second third = rw (first, second, third) refl

numeral : (text : List ℕ) → 1 ≤ length text → length text ≤ 20 → true ≡ list_all is_ascii_digit text
    → is_numeral text ≡ true
numeral text some few digits =
    each_true (nat_le 1 (length text)) (nat_le (length text) 20) _ (grind (arith, nat_tests))
    (grind (arith, nat_tests)) (sym digits)

-- the number of a text whose digits were all read
pub number_of-read : (text : List ℕ) (value : ℕ) → 1 ≤ length text → length text ≤ 20
    → true ≡ list_all is_ascii_digit text → min value no_number ≡ min (digits_value 10 text) no_number
    → value < 2 ^ 64 → value ≡ number_of text
number_of-read text value some few digits same small =
    let as_it_is : value ≡ min value no_number = omega arith in
    as_it_is ∙ same ∙ ap (λ (b : Bool). if b then min (digits_value 10 text) no_number else no_number)
    (sym (numeral text some few digits))
