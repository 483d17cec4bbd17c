-- What a schedule gives.
use Rattle.std.proofs.Common.{◌≡◌, ℕ, zero, suc, ◌+◌, ◌<◌, ◌≤◌, ◌==◌, cond, List, [], ◌∷◌, map, length, refl, ap, ◌∙◌, arith}
use Rattle.std.proofs.lemmas.Bool.Decides.{nat_tests}
use Rattle.std.specs.List.{range_with_len}
use Rattle.tm_workers.specs.Numbers.{times, once_below}
use Rattle.tm_workers.specs.Schedule.{given_from, values}

values-from : (first : ℕ) (schedule : List ℕ) → map (λ g. g.1) (given_from first schedule)
    ≡ range_with_len first (length schedule)
values-from first [] = refl
values-from first (w ∷ ws) = ap (λ l. first ∷ l) (values-from (first + 1) ws)

-- the numbers given are 0, 1, 2 and so on, in order
pub in_order : (schedule : List ℕ) → values schedule ≡ range_with_len 0 (length schedule)
in_order schedule = values-from 0 schedule

range-once : (x first n : ℕ) → times x (range_with_len first n) + once_below x first ≡ once_below x (first + n)
range-once x first zero = grind (arith, nat_tests)
range-once x first (suc n) =
    let r = range-once x (first + 1) n in
    let here : once_below x (first + 1) ≡ once_below x first + cond (first == x) 1 0 = grind (arith, nat_tests) in
    let there : first + 1 + n ≡ first + suc n = omega arith in
    let r' : times x (range_with_len (first + 1) n) + once_below x (first + 1) ≡ once_below x (first + suc n) = r
    ∙ ap (once_below x) there in
    omega arith

-- each number below the schedule's length is given once, and no other
pub each_once : (x : ℕ) (schedule : List ℕ) → times x (values schedule) ≡ once_below x (length schedule)
each_once x schedule =
    let r = range-once x 0 (length schedule) in
    let none : once_below x 0 ≡ 0 = grind (arith, nat_tests) in
    let n : 0 + length schedule ≡ length schedule = omega arith in
    ap (times x) (in_order schedule) ∙ omega (arith, r ∙ ap (once_below x) n)

pub at_most_once : (x : ℕ) (schedule : List ℕ) → times x (values schedule) ≤ 1
at_most_once x schedule =
    let e = each_once x schedule in
    let most : once_below x (length schedule) ≤ 1 = grind (arith, nat_tests) in
    omega arith

pub all_below : (x n : ℕ) (schedule : List ℕ) → n ≤ length schedule → x < n → times x (values schedule) ≡ 1
all_below x n schedule long h =
    let one : once_below x (length schedule) ≡ 1 = grind (arith, nat_tests) in
    each_once x schedule ∙ one
