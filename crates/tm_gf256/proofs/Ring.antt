-- The laws of the field, for all numbers: a product reads the low eight bits of its factors.
use Rattle.std.proofs.Common.{◌≡◌, ◌<◌, ◌≢◌, ◌%◌, ◌/◌, ℕ, zero, suc, ◌+◌, ◌*◌, refl, ap, sym, ◌∙◌, arith, inl, inr, add_comm, zero-add as zero_add}
use Rattle.std.specs.Prelude.{bit_xor}
use Rattle.std.specs.Int.Bits.{xor_zero_r, xor_assoc, xor_self}
use Rattle.std.proofs.lemmas.Nat.{xor_lt, xor_mod}
use Rattle.std.proofs.lemmas.Bool.{cases_eq}
use Rattle.std.proofs.Math.Nat.{mod-mod, mod-eq_of_lt, suc-add as suc_add, mul-zero as mul_zero, mul-suc as mul_suc, div-add-mod}
use Rattle.tm_gf256.specs.Field.{times, power, bit_product, remainder}
use Rattle.tm_gf256.proofs.Steps.{times_x, steps}
use Rattle.tm_gf256.proofs.Tests.{times-1, times-0, log_of, steps-log, log_of-lt, log_of-steps, steps-round}
use Rattle.tm_gf256.proofs.Laws.{steps-lt, steps-add, steps-0, steps-xor, times-steps, times-log}

-- ---- elements

comm_nonzero : (a b : ℕ) → a < 256 → b < 256 → a ≢ 0 → b ≢ 0 → times a b ≡ times b a
comm_nonzero a b h l na nb =
    times-log a b h l na
    ∙ ap (steps (log_of a)) (sym (steps-log b l nb))
    ∙ sym (steps-add (log_of a) (log_of b) 1)
    ∙ ap (λ (k : ℕ). steps k 1) (add_comm (log_of a) (log_of b))
    ∙ steps-add (log_of b) (log_of a) 1
    ∙ ap (steps (log_of b)) (steps-log a h na)
    ∙ sym (times-log b a l h nb)

right_0 : (a : ℕ) → a < 256 → times a 0 ≡ 0
right_0 a h =
    elim (cases_eq a 0) [
      | inl e ↦ rw e (times-0 0 (omega arith))
      | inr ne ↦ times-log a 0 h (omega arith) ne ∙ steps-0 (log_of a)
    ]

comm_in : (a b : ℕ) → a < 256 → b < 256 → times a b ≡ times b a
comm_in a b h l =
    elim (cases_eq a 0) [
      | inl e ↦ rw e (times-0 b l ∙ sym (right_0 b l))
      | inr na ↦ elim (cases_eq b 0) [
        | inl e ↦ rw e (right_0 a h ∙ sym (times-0 a h))
        | inr nb ↦ comm_nonzero a b h l na nb
      ]
    ]

times_in-lt : (a b : ℕ) → a < 256 → b < 256 → times a b < 256
times_in-lt a b h l =
    elim (cases_eq a 0) [
      | inl e ↦ rw e (rw (times-0 b l) (omega arith))
      | inr na ↦ rw (times-log a b h l na) (steps-lt (log_of a) b l)
    ]

distrib_in : (a b c : ℕ) → a < 256 → b < 256 → c < 256 → times a (bit_xor b c) ≡ bit_xor (times a b) (times a c)
distrib_in a b c h l m =
    let lt : bit_xor b c < 256 = xor_lt 8 b c l m in
    elim (cases_eq a 0) [
      | inl e ↦ rw e (times-0 (bit_xor b c) lt ∙ sym (ap (λ (y : ℕ). bit_xor y (times 0 c)) (times-0 b l)
          ∙ times-0 c m))
      | inr na ↦
          times-log a (bit_xor b c) h lt na ∙ steps-xor (log_of a) b c l m
          ∙ sym (ap (λ (y : ℕ). bit_xor y (times a c)) (times-log a b h l na)
          ∙ ap (bit_xor (steps (log_of a) b)) (times-log a c h m na))
    ]

assoc_in : (a b c : ℕ) → a < 256 → b < 256 → c < 256 → times (times a b) c ≡ times a (times b c)
assoc_in a b c h l m =
    elim (cases_eq a 0) [
      | inl e ↦ rw e (ap (λ (y : ℕ). times y c) (times-0 b l) ∙ times-0 c m
          ∙ sym (times-0 (times b c) (times_in-lt b c l m)))
      | inr na ↦
          ap (λ (y : ℕ). times y c) (times-log a b h l na) ∙ times-steps (log_of a) b c l m
          ∙ sym (times-log a (times b c) h (times_in-lt b c l m) na)
    ]

-- ---- all numbers

low-lt : (a : ℕ) → a % 256 < 256
low-lt a = omega arith

times-low : (a b : ℕ) → times a b ≡ times (a % 256) (b % 256)
unfolding times
times-low a b =
    sym (ap (λ (y : ℕ). remainder 7 (bit_product 8 y (b % 256 % 256))) (mod-mod a 256)
    ∙ ap (λ (y : ℕ). remainder 7 (bit_product 8 (a % 256) y)) (mod-mod b 256))

pub times-lt : (a b : ℕ) → times a b < 256
times-lt a b = rw (times-low a b) (times_in-lt (a % 256) (b % 256) (low-lt a) (low-lt b))

times-mod : (a b : ℕ) → times a b % 256 ≡ times a b
times-mod a b = mod-eq_of_lt (times-lt a b)

pub times-comm : (a b : ℕ) → times a b ≡ times b a
times-comm a b = times-low a b ∙ comm_in (a % 256) (b % 256) (low-lt a) (low-lt b) ∙ sym (times-low b a)

pub times-plus : (a b c : ℕ) → times a (bit_xor b c) ≡ bit_xor (times a b) (times a c)
times-plus a b c =
    times-low a (bit_xor b c) ∙ ap (times (a % 256)) (xor_mod b c 8)
    ∙ distrib_in (a % 256) (b % 256) (c % 256) (low-lt a) (low-lt b) (low-lt c)
    ∙ sym (ap (λ (y : ℕ). bit_xor y (times a c)) (times-low a b)
    ∙ ap (bit_xor (times (a % 256) (b % 256))) (times-low a c))

pub plus-times : (a b c : ℕ) → times (bit_xor a b) c ≡ bit_xor (times a c) (times b c)
plus-times a b c =
    times-comm (bit_xor a b) c ∙ times-plus c a b
    ∙ ap (λ (y : ℕ). bit_xor y (times c b)) (times-comm c a) ∙ ap (bit_xor (times a c)) (times-comm c b)

low_of_product : (a b c : ℕ) → times (times a b) c ≡ times (times (a % 256) (b % 256)) (c % 256)
low_of_product a b c =
    times-low (times a b) c ∙ ap (λ (y : ℕ). times y (c % 256)) (times-mod a b ∙ times-low a b)

pub times-assoc : (a b c : ℕ) → times (times a b) c ≡ times a (times b c)
times-assoc a b c =
    low_of_product a b c
    ∙ assoc_in (a % 256) (b % 256) (c % 256) (low-lt a) (low-lt b) (low-lt c)
    ∙ times-comm (a % 256) (times (b % 256) (c % 256))
    ∙ sym (times-comm a (times b c) ∙ low_of_product b c a)

pub zero-times : (a : ℕ) → times 0 a ≡ 0
zero-times a = times-low 0 a ∙ times-0 (a % 256) (low-lt a)

pub times-zero : (a : ℕ) → times a 0 ≡ 0
times-zero a = times-comm a 0 ∙ zero-times a

pub one-times : (a : ℕ) → a < 256 → times 1 a ≡ a
one-times = times-1

pub times-one : (a : ℕ) → a < 256 → times a 1 ≡ a
times-one a h = times-comm a 1 ∙ one-times a h

-- ---- powers

pub power-lt : (a k : ℕ) → power a k < 256
unfolding power
power-lt a zero = omega arith
power-lt a (suc k) = times-lt (power a k) a

pub power-add : (a i j : ℕ) → power a (i + j) ≡ times (power a i) (power a j)
unfolding power
power-add a zero j = ap (power a) (zero_add j) ∙ sym (one-times (power a j) (power-lt a j))
power-add a (suc i) j =
    ap (power a) (suc_add i j) ∙ ap (λ (y : ℕ). times y a) (power-add a i j)
    ∙ times-assoc (power a i) (power a j) a ∙ ap (times (power a i)) (times-comm (power a j) a)
    ∙ sym (times-assoc (power a i) a (power a j))

pub power-one : (k : ℕ) → power 1 k ≡ 1
unfolding power
power-one zero = refl
power-one (suc k) = ap (λ (y : ℕ). times y 1) (power-one k) ∙ one-times 1 (omega arith)

pub power-power : (a i j : ℕ) → power (power a i) j ≡ power a (i * j)
unfolding power
power-power a i zero = ap (power a) (sym (mul_zero i))
power-power a i (suc j) =
    ap (λ (y : ℕ). times y (power a i)) (power-power a i j) ∙ sym (power-add a (i * j) i)
    ∙ ap (power a) (sym (mul_suc i j))

one_step : steps 1 1 ≡ 2
unfolding steps times_x
one_step = refl

times-2 : (b : ℕ) → b < 256 → times 2 b ≡ times_x b
unfolding steps
times-2 b h =
    ap (λ (y : ℕ). times y b) (sym one_step) ∙ times-steps 1 1 b (omega arith) h ∙ ap times_x (one-times b h)

-- alpha to the power i is i steps
pub power-2 : (i : ℕ) → power 2 i ≡ steps i 1
unfolding power steps
power-2 zero = refl
power-2 (suc i) =
    times-comm (power 2 i) 2 ∙ times-2 (power 2 i) (power-lt 2 i) ∙ ap times_x (power-2 i)

-- the powers of alpha are all elements but 0
pub log_power : (a : ℕ) → a < 256 → a ≢ 0 → (log_of a < 255) × (power 2 (log_of a) ≡ a)
log_power a h ne = (log_of-lt a h ne, power-2 (log_of a) ∙ steps-log a h ne)

pub power_log : (i : ℕ) → i < 255 → log_of (power 2 i) ≡ i
power_log i h = ap log_of (power-2 i) ∙ log_of-steps i h

pub power-255 : power 2 255 ≡ 1
power-255 = power-2 255 ∙ steps-round

-- the powers of alpha below 255 are apart
pub power_apart : (i j : ℕ) → i < 255 → j < 255 → power 2 i ≡ power 2 j → i ≡ j
power_apart i j h l e = sym (power_log i h) ∙ ap log_of e ∙ power_log j l

pub power-round : (k : ℕ) → power 2 (255 * k) ≡ 1
power-round k = sym (power-power 2 255 k) ∙ ap (λ (y : ℕ). power y k) power-255 ∙ power-one k

pub power-mod : (k : ℕ) → power 2 k ≡ power 2 (k % 255)
power-mod k =
    ap (power 2) (sym (div-add-mod k 255)) ∙ power-add 2 (255 * (k / 255)) (k % 255)
    ∙ ap (λ (y : ℕ). times y (power 2 (k % 255))) (power-round (k / 255))
    ∙ one-times (power 2 (k % 255)) (power-lt 2 (k % 255))

-- the inverse of an element that is not 0
unfoldable pub inverse : ℕ → ℕ
inverse a = power a 254

pub times-inverse : (a : ℕ) → a < 256 → a ≢ 0 → times a (inverse a) ≡ 1
unfolding inverse
times-inverse a h ne =
    let lp : (log_of a < 255) × (power 2 (log_of a) ≡ a) = log_power a h ne in
    ap (λ (y : ℕ). times y (power a 254)) (sym lp.1)
    ∙ ap (λ (y : ℕ). times (power 2 (log_of a)) (power y 254)) (sym lp.1)
    ∙ ap (times (power 2 (log_of a))) (power-power 2 (log_of a) 254)
    ∙ sym (power-add 2 (log_of a) (log_of a * 254))
    ∙ ap (power 2) (omega arith)
    ∙ power-round (log_of a)

pub inverse-lt : (a : ℕ) → inverse a < 256
unfolding inverse
inverse-lt a = power-lt a 254

-- a product that is 0 has a factor 0
pub times-cancel : (a b : ℕ) → a < 256 → b < 256 → a ≢ 0 → times a b ≡ 0 → b ≡ 0
times-cancel a b h l ne e =
    sym (one-times b l)
    ∙ ap (λ (y : ℕ). times y b) (sym (times-comm (inverse a) a ∙ times-inverse a h ne))
    ∙ times-assoc (inverse a) a b ∙ ap (times (inverse a)) e ∙ times-zero (inverse a)

pub times-nonzero : (a b : ℕ) → a < 256 → b < 256 → a ≢ 0 → b ≢ 0 → times a b ≢ 0
times-nonzero a b h l na nb e = nb (times-cancel a b h l na e)

pub power-nonzero : (a k : ℕ) → a < 256 → a ≢ 0 → power a k ≢ 0
unfolding power
power-nonzero a zero h ne e = omega arith
power-nonzero a (suc k) h ne e = times-nonzero (power a k) a (power-lt a k) h (power-nonzero a k h ne) ne e

-- ---- sums

-- equal where the sum is 0
pub plus_apart : (a b : ℕ) → bit_xor a b ≡ 0 → a ≡ b
plus_apart a b e =
    sym (xor_zero_r a) ∙ ap (bit_xor a) (sym (xor_self b)) ∙ sym (xor_assoc a b b)
    ∙ ap (λ (y : ℕ). bit_xor y b) e

pub plus-lt : (a b : ℕ) → a < 256 → b < 256 → bit_xor a b < 256
plus-lt = xor_lt 8
