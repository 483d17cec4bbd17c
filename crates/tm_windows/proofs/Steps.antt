-- How many symbols whole steps send.
use Rattle.std.proofs.Common.{◌≡◌, ℕ, ◌+◌, ◌-◌, ◌*◌, ◌/◌, ◌%◌, ◌<◌, ◌≤◌, min, arith}
use Rattle.tm_conv.specs.declared.rates.Rate.{Rate}
use Rattle.tm_conv.specs.declared.rates.Rate.TheVariants.{R12, R23, R34, R56, R78}
use Rattle.tm_conv.specs.Path.{period, steps_size}
use Rattle.tm_conv.proofs.Sizes.{steps_size-is}

-- `symbols` symbols have `count` whole steps, which send `size` of them
pub record AreWhole (rate : Rate) (symbols count size : ℕ) : Type 0 where
  pub is : steps_size rate 0 count ≡ size
  pub fits : size ≤ symbols
  pub most : symbols < steps_size rate 0 (count + 1)

-- one symbol is left over where it stands alone after whole periods, and else none
abbrev pub left_over : ℕ → ℕ → ℕ
left_over period symbols = min 1 (symbols % (period + 1)) - min 1 (symbols % (period + 1) - 1)

-- of a period and one more symbol each period has its steps, and after the whole periods each
-- symbol but the first ends a step
abbrev pub steps_of : ℕ → ℕ → ℕ
steps_of period n = n / (period + 1) * period + (n % (period + 1) - 1)

-- `count` steps are whole, and send all of the symbols but `left`
pub record SendAllBut (rate : Rate) (symbols count left : ℕ) : Type 0 where
  pub is : steps_size rate 0 count + left ≡ symbols
  pub most : symbols < steps_size rate 0 (count + 1)

pub all_but : (rate : Rate) (n : ℕ) → SendAllBut rate n (steps_of (period rate) n) (left_over (period rate) n)
all_but R12 n =
    let m : ℕ = n / 2 * 1 + (n % 2 - 1) in
    let a : steps_size R12 0 m ≡ m + (m / 1 + min 1 (m % 1)) = steps_size-is R12 m in
    let b : steps_size R12 0 (m + 1) ≡ m + 1 + ((m + 1) / 1 + min 1 ((m + 1) % 1)) = steps_size-is R12 (m + 1) in
    record { is = omega (arith, a); most = omega (arith, b) }
all_but R23 n =
    let m : ℕ = n / 3 * 2 + (n % 3 - 1) in
    let a : steps_size R23 0 m ≡ m + (m / 2 + min 1 (m % 2)) = steps_size-is R23 m in
    let b : steps_size R23 0 (m + 1) ≡ m + 1 + ((m + 1) / 2 + min 1 ((m + 1) % 2)) = steps_size-is R23 (m + 1) in
    record { is = omega (arith, a); most = omega (arith, b) }
all_but R34 n =
    let m : ℕ = n / 4 * 3 + (n % 4 - 1) in
    let a : steps_size R34 0 m ≡ m + (m / 3 + min 1 (m % 3)) = steps_size-is R34 m in
    let b : steps_size R34 0 (m + 1) ≡ m + 1 + ((m + 1) / 3 + min 1 ((m + 1) % 3)) = steps_size-is R34 (m + 1) in
    record { is = omega (arith, a); most = omega (arith, b) }
all_but R56 n =
    let m : ℕ = n / 6 * 5 + (n % 6 - 1) in
    let a : steps_size R56 0 m ≡ m + (m / 5 + min 1 (m % 5)) = steps_size-is R56 m in
    let b : steps_size R56 0 (m + 1) ≡ m + 1 + ((m + 1) / 5 + min 1 ((m + 1) % 5)) = steps_size-is R56 (m + 1) in
    record { is = omega (arith, a); most = omega (arith, b) }
all_but R78 n =
    let m : ℕ = n / 8 * 7 + (n % 8 - 1) in
    let a : steps_size R78 0 m ≡ m + (m / 7 + min 1 (m % 7)) = steps_size-is R78 m in
    let b : steps_size R78 0 (m + 1) ≡ m + 1 + ((m + 1) / 7 + min 1 ((m + 1) % 7)) = steps_size-is R78 (m + 1) in
    record { is = omega (arith, a); most = omega (arith, b) }

pub whole_steps : (rate : Rate) (n size : ℕ) → size + left_over (period rate) n ≡ n → (count : ℕ)
    × AreWhole rate n count size
whole_steps rate n size h =
    let l = all_but rate n in
    (steps_of (period rate) n, record { is = omega (arith, l.is, h); fits = omega (arith, h); most = l.most })
