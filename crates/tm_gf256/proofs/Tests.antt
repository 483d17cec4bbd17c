-- What the runs over all elements say.
use Rattle.std.proofs.Common.{◌≡◌, ◌<◌, ◌≢◌, ℕ, Bool, true, false, eqb, ltb, arith, ◌||◌, inl, inr}
use Rattle.std.specs.Prelude.{bit_xor}
use Rattle.std.proofs.lemmas.Bool.{ltb-true, eqb-true}
use Rattle.std.proofs.lemmas.Bool.Decides.{eqb_tells}
use Rattle.tm_gf256.specs.Field.{times}
use Rattle.tm_gf256.proofs.Below.{at_below, same_below, same_pair_below}
use Rattle.tm_gf256.proofs.Steps.{times_x, steps, horner, find_log}
use Rattle.tm_gf256.proofs.Runs.{product_passes, linear_passes, below_passes, one_passes, zero_passes, log_passes, log_small_passes, exp_passes, round_passes}

pub neq-eqb : (a b : ℕ) → a ≢ b → eqb a b ≡ false
neq-eqb a b ne = elim (eqb_tells a b) [ inl p ↦ absurd (ne p.1) | inr p ↦ p.0 ]

pub times-horner : (a b : ℕ) → a < 256 → b < 256 → times a b ≡ horner 8 a b
times-horner = same_pair_below 256 256 times (horner 8) product_passes

pub times_x-xor : (a b : ℕ) → a < 256 → b < 256 → times_x (bit_xor a b) ≡ bit_xor (times_x a) (times_x b)
times_x-xor =
    same_pair_below 256 256 (λ a b. times_x (bit_xor a b)) (λ a b. bit_xor (times_x a) (times_x b)) linear_passes

pub times_x-lt : (a : ℕ) → a < 256 → times_x a < 256
times_x-lt a h = ltb-true (times_x a) 256 (at_below 256 (λ a. ltb (times_x a) 256) below_passes a h)

pub times-1 : (b : ℕ) → b < 256 → times 1 b ≡ b
times-1 = same_below 256 (times 1) (λ b. b) one_passes

pub times-0 : (b : ℕ) → b < 256 → times 0 b ≡ 0
times-0 = same_below 256 (times 0) (λ b. 0) zero_passes

-- the i below 255 at which a is x^i
unfoldable pub log_of : ℕ → ℕ
log_of a = find_log 255 0 1 a

pub or_left : (b c : Bool) → (b || c) ≡ true → b ≡ false → c ≡ true
or_left b c h e = grind arith

pub steps-log : (a : ℕ) → a < 256 → a ≢ 0 → steps (log_of a) 1 ≡ a
unfolding log_of
steps-log a h ne =
    eqb-true (steps (find_log 255 0 1 a) 1) a
    (or_left (eqb a 0) (eqb (steps (find_log 255 0 1 a) 1) a)
    (at_below 256 (λ a. eqb a 0 || eqb (steps (find_log 255 0 1 a) 1) a) log_passes a h)
    (neq-eqb a 0 ne))

pub log_of-lt : (a : ℕ) → a < 256 → a ≢ 0 → log_of a < 255
unfolding log_of
log_of-lt a h ne =
    ltb-true (find_log 255 0 1 a) 255
    (or_left (eqb a 0) (ltb (find_log 255 0 1 a) 255)
    (at_below 256 (λ a. eqb a 0 || ltb (find_log 255 0 1 a) 255) log_small_passes a h)
    (neq-eqb a 0 ne))

pub log_of-steps : (i : ℕ) → i < 255 → log_of (steps i 1) ≡ i
unfolding log_of
log_of-steps i h = same_below 255 (λ i. find_log 255 0 1 (steps i 1)) (λ i. i) exp_passes i h

pub steps-round : steps 255 1 ≡ 1
steps-round = eqb-true (steps 255 1) 1 round_passes
