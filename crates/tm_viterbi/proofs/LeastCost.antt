-- The steps from a step on.
use Rattle.std.proofs.Common.{◌≡◌, ℕ, ◌+◌, ◌-◌, ◌<◌, ◌≤◌, ◌∙◌, sym, ap, arith, List, ◌++◌, take, drop, inl, inr}
use Rattle.std.proofs.lemmas.Bool.{cases_lt}
use Rattle.std.proofs.Math.Seq.{take-add}
use Rattle.tm_conv.specs.declared.rates.Rate.{Rate}
use Rattle.tm_conv.specs.Path.{steps_size, step_size}
use Rattle.tm_conv.proofs.Paths.{steps_size-more}
use Rattle.tm_conv.proofs.Sizes.{step_size_pos, steps_size-le, steps_size-most}

-- fewer symbols are fewer steps
pub steps_le : (rate : Rate) (t a b : ℕ) → steps_size rate t a ≤ steps_size rate t b → a ≤ b
steps_le rate t a b le = elim (cases_lt b a) as (λ _. a ≤ b) [
  | inr there ↦ there
  | inl lt ↦ absurd (omega (
    arith,
    le,
    steps_size-more rate t b,
    step_size_pos rate (t + b),
    steps_size-le rate t (b + 1) a (omega arith),
  ))
]

-- at most 69,632 steps have at most 139,264 octets
pub few_octets : (rate : Rate) (t steps size : ℕ) → steps ≤ 69632 → size ≡ steps_size rate t steps → size ≤ 139264
few_octets rate t steps size few is = omega (arith, is, steps_size-most rate t steps)

-- where octets are left of whole steps, the next step is whole
pub step_left : (rate : Rate) (t done n at size : ℕ) → size ≡ steps_size rate t n → at ≡ steps_size rate t done
    → at < size → step_size rate (t + done) ≤ size - at
step_left rate t done n at size is place less = elim (cases_lt done n) as (λ _. step_size rate (t + done) ≤ size - at) [
  | inl lt ↦ omega (arith, is, place, steps_size-more rate t done, steps_size-le rate t (done + 1) n (omega arith))
  | inr le ↦ absurd (omega (arith, is, place, less, steps_size-le rate t n done le))
]

-- a piece after the octets before it
pub prefix_and_piece : (at size : ℕ) (octets : List ℕ) → take at octets ++ take ((at + size) - at) (drop at octets)
    ≡ take (at + size) octets
prefix_and_piece at size octets =
    let same : (at + size) - at ≡ size = omega arith in
    ap (λ (n : ℕ). take at octets ++ take n (drop at octets)) same ∙ sym (take-add at size octets)
