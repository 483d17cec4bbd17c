-- The laws of the field.
use Rattle.std.proofs.Common.{◌≡◌, ◌<◌, ◌≢◌, ◌%◌, ◌/◌, ℕ, zero, suc, ◌+◌, ◌*◌, refl, ap, sym, ◌∙◌, arith, zero-add, inl, inr, ◌⊎◌}
use Rattle.std.specs.Prelude.{bit_xor}
use Rattle.std.proofs.lemmas.Nat.{xor_lt}
use Rattle.std.proofs.Math.Nat.{zero-mul, one-mul, suc-add}
use Rattle.tm_gf256.specs.Field.{times}
use Rattle.tm_gf256.proofs.Steps.{times_x, steps, horner}
use Rattle.tm_gf256.proofs.Tests.{times-horner, times_x-xor, times_x-lt, times-1, log_of, steps-log}

-- ---- multiplication by x

times_x-0 : times_x 0 ≡ 0
unfolding times_x
times_x-0 = refl

digit-0 : (d : ℕ) → d < 2 → (d ≡ 0) ⊎ (d ≡ 1)
digit-0 d h = grind arith

times_x-digit : (d a : ℕ) → d < 2 → d * times_x a ≡ times_x (d * a)
times_x-digit d a h =
    elim (digit-0 d h) [
      | inl e ↦ rw e (zero-mul (times_x a) ∙ sym times_x-0 ∙ ap times_x (sym (zero-mul a)))
      | inr e ↦ rw e (one-mul (times_x a) ∙ ap times_x (sym (one-mul a)))
    ]

digit_times-lt : (d a n : ℕ) → d < 2 → a < n → d * a < n
digit_times-lt d a n h l =
    elim (digit-0 d h) [
      | inl e ↦ rw e (omega arith)
      | inr e ↦ rw e (omega arith)
    ]

horner-lt : (k a b : ℕ) → a < 256 → horner k a b < 256
unfolding horner
horner-lt zero a b h = omega arith
horner-lt (suc k) a b h =
    xor_lt 8 ((b % 2) * a) (times_x (horner k a (b / 2))) (digit_times-lt (b % 2) a 256 (omega arith) h)
    (times_x-lt (horner k a (b / 2)) (horner-lt k a (b / 2) h))

horner-times_x : (k a b : ℕ) → a < 256 → horner k (times_x a) b ≡ times_x (horner k a b)
unfolding horner
horner-times_x zero a b h = sym times_x-0
horner-times_x (suc k) a b h =
    ap (λ (y : ℕ). bit_xor ((b % 2) * times_x a) (times_x y)) (horner-times_x k a (b / 2) h)
    ∙ ap (λ (y : ℕ). bit_xor y (times_x (times_x (horner k a (b / 2))))) (times_x-digit (b % 2) a (omega arith))
    ∙ sym (times_x-xor ((b % 2) * a) (times_x (horner k a (b / 2))) (digit_times-lt (b % 2) a 256 (omega arith) h)
    (times_x-lt (horner k a (b / 2)) (horner-lt k a (b / 2) h)))

times-times_x : (a b : ℕ) → a < 256 → b < 256 → times (times_x a) b ≡ times_x (times a b)
times-times_x a b h l =
    times-horner (times_x a) b (times_x-lt a h) l ∙ horner-times_x 8 a b h ∙ ap times_x (sym (times-horner a b h l))

-- ---- multiplication by x^i

pub steps-lt : (i a : ℕ) → a < 256 → steps i a < 256
unfolding steps
steps-lt zero a h = h
steps-lt (suc i) a h = times_x-lt (steps i a) (steps-lt i a h)

pub steps-add : (i j a : ℕ) → steps (i + j) a ≡ steps i (steps j a)
unfolding steps
steps-add zero j a = ap (λ (k : ℕ). steps k a) (zero-add j)
steps-add (suc i) j a = ap (λ (k : ℕ). steps k a) (suc-add i j) ∙ ap times_x (steps-add i j a)

pub steps-0 : (i : ℕ) → steps i 0 ≡ 0
unfolding steps
steps-0 zero = refl
steps-0 (suc i) = ap times_x (steps-0 i) ∙ times_x-0

pub steps-xor : (i a b : ℕ) → a < 256 → b < 256 → steps i (bit_xor a b) ≡ bit_xor (steps i a) (steps i b)
unfolding steps
steps-xor zero a b h l = refl
steps-xor (suc i) a b h l =
    ap times_x (steps-xor i a b h l) ∙ times_x-xor (steps i a) (steps i b) (steps-lt i a h) (steps-lt i b l)

pub times-steps : (i a b : ℕ) → a < 256 → b < 256 → times (steps i a) b ≡ steps i (times a b)
unfolding steps
times-steps zero a b h l = refl
times-steps (suc i) a b h l =
    times-times_x (steps i a) b (steps-lt i a h) l ∙ ap times_x (times-steps i a b h l)

-- the product of a and b is b after `log_of a` steps
pub times-log : (a b : ℕ) → a < 256 → b < 256 → a ≢ 0 → times a b ≡ steps (log_of a) b
times-log a b h l ne =
    ap (λ (y : ℕ). times y b) (sym (steps-log a h ne)) ∙ times-steps (log_of a) 1 b (omega arith) l
    ∙ ap (steps (log_of a)) (times-1 b l)
