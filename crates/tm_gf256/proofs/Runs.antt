-- What a run over all elements shows.
use Rattle.std.proofs.Common.{◌≡◌, true, eqb, ltb, refl, ◌||◌}
use Rattle.std.specs.Prelude.{bit_xor}
use Rattle.tm_gf256.specs.Field.{times, remainder, bit_product}
use Rattle.tm_gf256.proofs.Below.{all_below}
use Rattle.tm_gf256.proofs.Steps.{times_x, steps, horner, find_log}

pub product_passes : all_below 256 (λ a. all_below 256 (λ b. eqb (times a b) (horner 8 a b))) ≡ true
unfolding times bit_product remainder horner times_x
product_passes = refl

pub linear_passes : all_below 256 (λ a. all_below 256 (λ b. eqb (times_x (bit_xor a b))
    (bit_xor (times_x a) (times_x b)))) ≡ true
unfolding times_x
linear_passes = refl

pub below_passes : all_below 256 (λ a. ltb (times_x a) 256) ≡ true
unfolding times_x
below_passes = refl

pub one_passes : all_below 256 (λ b. eqb (times 1 b) b) ≡ true
unfolding times bit_product remainder
one_passes = refl

pub zero_passes : all_below 256 (λ b. eqb (times 0 b) 0) ≡ true
unfolding times bit_product remainder
zero_passes = refl

pub log_passes : all_below 256 (λ a. eqb a 0 || eqb (steps (find_log 255 0 1 a) 1) a) ≡ true
unfolding times_x steps find_log
log_passes = refl

pub log_small_passes : all_below 256 (λ a. eqb a 0 || ltb (find_log 255 0 1 a) 255) ≡ true
unfolding times_x steps find_log
log_small_passes = refl

pub exp_passes : all_below 255 (λ i. eqb (find_log 255 0 1 (steps i 1)) i) ≡ true
unfolding times_x steps find_log
exp_passes = refl

pub round_passes : eqb (steps 255 1) 1 ≡ true
unfolding times_x steps
round_passes = refl
