-- How many symbols steps send.
use Rattle.std.proofs.Common.{◌*◌, ◌≡◌, ℕ, ◌+◌, ◌/◌, ◌%◌, ◌<◌, ◌≤◌, ◌-◌, min, sym, ap, ◌∙◌, arith, length, List, [], ◌∷◌, zero, suc, refl, Bool, true, false, cond, eqb, ◌||◌, ◌&&◌, get_or}
use Rattle.tm_conv.specs.declared.rates.Rate.{Rate}
use Rattle.tm_conv.specs.declared.rates.Rate.TheVariants.{R12, R23, R34, R56, R78}
use Rattle.tm_conv.specs.Path.{period, step_size, steps_size, c1_pattern, c2_pattern}

-- each step sends a symbol

sends : List ℕ → List ℕ → Bool
sends [] ys = true
sends (x ∷ xs) [] = false
sends (x ∷ xs) (y ∷ ys) = (eqb x 1 || eqb y 1) && sends xs ys

pos_of_or : (a b : Bool) → (a || b) ≡ true → 0 < cond a 1 0 + cond b 1 0
pos_of_or true true e = omega arith
pos_of_or true false e = omega arith
pos_of_or false true e = omega arith
pos_of_or false false e = absurd cc

and_parts : (a b : Bool) → (a && b) ≡ true → (a ≡ true) × (b ≡ true)
and_parts true b e = (refl, e)
and_parts false b e = absurd cc

sends_at : (xs ys : List ℕ) (k : ℕ) → sends xs ys ≡ true → k < length xs
    → 0 < cond (eqb (get_or xs k 0) 1) 1 0 + cond (eqb (get_or ys k 0) 1) 1 0
unfolding sends
sends_at [] ys k e lt = absurd (let h : k < 0 = lt in omega arith)
sends_at (x ∷ xs) [] k e lt = absurd cc
sends_at (x ∷ xs) (y ∷ ys) zero e lt = pos_of_or (eqb x 1) (eqb y 1) (and_parts _ _ e).0
sends_at (x ∷ xs) (y ∷ ys) (suc k) e lt =
    sends_at xs ys k (and_parts _ _ e).1 (let h : suc k < suc (length xs) = lt in omega arith)

pub step_size_pos : (rate : Rate) (t : ℕ) → 0 < step_size rate t
unfolding sends
step_size_pos R12 t = sends_at (c1_pattern R12) (c2_pattern R12) (t % 1) refl (omega arith)
step_size_pos R23 t = sends_at (c1_pattern R23) (c2_pattern R23) (t % 2) refl (omega arith)
step_size_pos R34 t = sends_at (c1_pattern R34) (c2_pattern R34) (t % 3) refl (omega arith)
step_size_pos R56 t = sends_at (c1_pattern R56) (c2_pattern R56) (t % 5) refl (omega arith)
step_size_pos R78 t = sends_at (c1_pattern R78) (c2_pattern R78) (t % 7) refl (omega arith)

pub steps_size_ge : (rate : Rate) (t n : ℕ) → n ≤ steps_size rate t n
unfolding steps_size
steps_size_ge rate t zero = omega arith
steps_size_ge rate t (suc n) = omega (arith, steps_size_ge rate (t + 1) n, step_size_pos rate t)

pub same_from_steps_size : (rate : Rate) (t n m : ℕ) → steps_size rate t n ≡ steps_size rate t m → n ≡ m
unfolding steps_size
same_from_steps_size rate t zero zero e = refl
same_from_steps_size rate t zero (suc m) e =
    absurd (let h : 0 ≡ step_size rate t + steps_size rate (t + 1) m = e in omega (arith, step_size_pos rate t))
same_from_steps_size rate t (suc n) zero e =
    absurd (let h : step_size rate t + steps_size rate (t + 1) n ≡ 0 = e in omega (arith, step_size_pos rate t))
same_from_steps_size rate t (suc n) (suc m) e =
    let h : step_size rate t + steps_size rate (t + 1) n ≡ step_size rate t + steps_size rate (t + 1) m = e in
    let k : n ≡ m = same_from_steps_size rate (t + 1) n m (omega arith) in
    omega arith

-- ---- a step sends one symbol, and the first of a period two
at_two : (k : ℕ) → k < 2 → cond (eqb (get_or (c1_pattern R23) k 0) 1) 1 0 + cond
    (eqb (get_or (c2_pattern R23) k 0) 1) 1 0 ≡ 2 - min 1 k
at_two zero lt = refl
at_two (suc zero) lt = refl
at_two (suc (suc k)) lt = absurd (omega arith)

at_three : (k : ℕ) → k < 3 → cond (eqb (get_or (c1_pattern R34) k 0) 1) 1 0 + cond
    (eqb (get_or (c2_pattern R34) k 0) 1) 1 0 ≡ 2 - min 1 k
at_three zero lt = refl
at_three (suc zero) lt = refl
at_three (suc (suc zero)) lt = refl
at_three (suc (suc (suc k))) lt = absurd (omega arith)

at_five : (k : ℕ) → k < 5 → cond (eqb (get_or (c1_pattern R56) k 0) 1) 1 0 + cond
    (eqb (get_or (c2_pattern R56) k 0) 1) 1 0 ≡ 2 - min 1 k
at_five zero lt = refl
at_five (suc zero) lt = refl
at_five (suc (suc zero)) lt = refl
at_five (suc (suc (suc zero))) lt = refl
at_five (suc (suc (suc (suc zero)))) lt = refl
at_five (suc (suc (suc (suc (suc k))))) lt = absurd (omega arith)

at_seven : (k : ℕ) → k < 7 → cond (eqb (get_or (c1_pattern R78) k 0) 1) 1 0 + cond
    (eqb (get_or (c2_pattern R78) k 0) 1) 1 0 ≡ 2 - min 1 k
at_seven zero lt = refl
at_seven (suc zero) lt = refl
at_seven (suc (suc zero)) lt = refl
at_seven (suc (suc (suc zero))) lt = refl
at_seven (suc (suc (suc (suc zero)))) lt = refl
at_seven (suc (suc (suc (suc (suc zero))))) lt = refl
at_seven (suc (suc (suc (suc (suc (suc zero)))))) lt = refl
at_seven (suc (suc (suc (suc (suc (suc (suc k))))))) lt = absurd (omega arith)

at_one : (k : ℕ) → k < 1 → cond (eqb (get_or (c1_pattern R12) k 0) 1) 1 0 + cond
    (eqb (get_or (c2_pattern R12) k 0) 1) 1 0 ≡ 2 - min 1 k
at_one zero lt = refl
at_one (suc k) lt = absurd (omega arith)

pub step_size-is : (rate : Rate) (t : ℕ) → step_size rate t ≡ 2 - min 1 (t % period rate)
step_size-is R12 t = at_one (t % 1) (omega arith)
step_size-is R23 t = at_two (t % 2) (omega arith)
step_size-is R34 t = at_three (t % 3) (omega arith)
step_size-is R56 t = at_five (t % 5) (omega arith)
step_size-is R78 t = at_seven (t % 7) (omega arith)

-- ---- the symbols of the first steps
counted : Rate → ℕ → ℕ
counted rate n = n + (n / period rate + min 1 (n % period rate))

counted-zero : (rate : Rate) → counted rate 0 ≡ 0
unfolding counted
counted-zero R12 = refl
counted-zero R23 = refl
counted-zero R34 = refl
counted-zero R56 = refl
counted-zero R78 = refl

counted-suc : (rate : Rate) (n : ℕ) → counted rate (suc n) ≡ counted rate n + (2 - min 1 (n % period rate))
unfolding counted
counted-suc R12 n =
    let goal : suc n + (suc n / 1 + min 1 (suc n % 1)) ≡ n + (n / 1 + min 1 (n % 1)) + (2 - min 1 (n % 1)) =
    omega arith in goal
counted-suc R23 n =
    let goal : suc n + (suc n / 2 + min 1 (suc n % 2)) ≡ n + (n / 2 + min 1 (n % 2)) + (2 - min 1 (n % 2)) =
    omega arith in goal
counted-suc R34 n =
    let goal : suc n + (suc n / 3 + min 1 (suc n % 3)) ≡ n + (n / 3 + min 1 (n % 3)) + (2 - min 1 (n % 3)) =
    omega arith in goal
counted-suc R56 n =
    let goal : suc n + (suc n / 5 + min 1 (suc n % 5)) ≡ n + (n / 5 + min 1 (n % 5)) + (2 - min 1 (n % 5)) =
    omega arith in goal
counted-suc R78 n =
    let goal : suc n + (suc n / 7 + min 1 (suc n % 7)) ≡ n + (n / 7 + min 1 (n % 7)) + (2 - min 1 (n % 7)) =
    omega arith in goal

pub steps_size-suc : (rate : Rate) (t n : ℕ) → steps_size rate t (suc n) ≡ steps_size rate t n + step_size rate (t + n)
unfolding steps_size
steps_size-suc rate t zero = let e : t + 0 ≡ t = omega arith in rw e (omega arith)
steps_size-suc rate t (suc n) =
    let e : t + suc n ≡ t + 1 + n = omega arith in
    let h : steps_size rate (t + 1) (suc n) ≡ steps_size rate (t + 1) n + step_size rate (t + 1 + n) =
    steps_size-suc rate (t + 1) n in
    rw e (omega (arith, h))

steps_size-counted : (rate : Rate) (n : ℕ) → steps_size rate 0 n ≡ counted rate n
unfolding steps_size
steps_size-counted rate zero = sym (counted-zero rate)
steps_size-counted rate (suc n) =
    let h = steps_size-counted rate n in
    let step : step_size rate (0 + n) ≡ 2 - min 1 (n % period rate) =
    ap (step_size rate) (let e : 0 + n ≡ n = omega arith in e) ∙ step_size-is rate n in
    omega (arith, steps_size-suc rate 0 n, h, step, counted-suc rate n)

pub steps_size-is : (rate : Rate) (n : ℕ) → steps_size rate 0 n ≡ n + (n / period rate + min 1 (n % period rate))
unfolding counted
steps_size-is rate n = steps_size-counted rate n

-- the symbols of steps, and of further ones
pub steps_size-add : (rate : Rate) (t a b : ℕ) → steps_size rate t (a + b)
    ≡ steps_size rate t a + steps_size rate (t + a) b
unfolding steps_size
steps_size-add rate t zero b =
    let e : t + 0 ≡ t = omega arith in
    let f : 0 + b ≡ b = omega arith in
    rw (e, f) (omega arith)
steps_size-add rate t (suc a) b =
    let e : t + suc a ≡ t + 1 + a = omega arith in
    let f : suc a + b ≡ suc (a + b) = omega arith in
    let h : steps_size rate (t + 1) (a + b) ≡ steps_size rate (t + 1) a + steps_size rate (t + 1 + a) b =
    steps_size-add rate (t + 1) a b in
    let goal : step_size rate t + steps_size rate (t + 1) (a + b)
    ≡ step_size rate t + steps_size rate (t + 1) a + steps_size rate (t + 1 + a) b = omega (arith, h) in
    rw (e, f) goal

pub steps_size-le : (rate : Rate) (t i n : ℕ) → i ≤ n → steps_size rate t i ≤ steps_size rate t n
steps_size-le rate t i n le =
    let whole : i + (n - i) ≡ n = omega arith in
    omega (arith, steps_size-add rate t i (n - i), ap (steps_size rate t) whole)

-- a step sends one symbol or two
pub steps_size-most : (rate : Rate) (t n : ℕ) → steps_size rate t n ≤ 2 * n
unfolding steps_size
steps_size-most rate t zero = omega arith
steps_size-most rate t (suc n) =
    let h : steps_size rate (t + 1) n ≤ 2 * n = steps_size-most rate (t + 1) n in
    let goal : step_size rate t + steps_size rate (t + 1) n ≤ 2 * suc n = omega (arith, h, step_size-is rate t) in
    goal

pub steps_size-least : (rate : Rate) (t n : ℕ) → n ≤ steps_size rate t n
unfolding steps_size
steps_size-least rate t zero = omega arith
steps_size-least rate t (suc n) =
    let h : n ≤ steps_size rate (t + 1) n = steps_size-least rate (t + 1) n in
    let goal : suc n ≤ step_size rate t + steps_size rate (t + 1) n = omega (arith, h, step_size-is rate t) in
    goal
