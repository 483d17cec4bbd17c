-- The cost of a path, a step at a time; how many symbols steps send.
use Rattle.std.proofs.Common.{◌≡◌, ℕ, suc, ◌+◌, ◌-◌, ◌<◌, ◌≤◌, Bool, List, ◌∷◌, ◌++◌, length, take, drop, refl, sym, ap, ◌∙◌, arith, get_or}
use Rattle.std.proofs.lemmas.List.{take-append-drop, at_drop_more, drop-drop, length-drop, length-take-le}
use Rattle.tm_conv.specs.declared.rates.Rate.{Rate}
use Rattle.tm_conv.specs.Path.{next_register, step_symbols, step_size, steps_size, path}
use Rattle.tm_conv.specs.Cost.{cost}
use Rattle.tm_conv.proofs.Sizes.{steps_size-suc}
use Rattle.tm_conv.proofs.Paths.{cost-append, length-step_symbols}

pub steps_size-none : (rate : Rate) (t : ℕ) → steps_size rate t 0 ≡ 0
unfolding steps_size
steps_size-none rate t = refl

pub steps_size-next : (rate : Rate) (t count : ℕ) → steps_size rate t (suc count)
    ≡ step_size rate t + steps_size rate (t + 1) count
unfolding steps_size
steps_size-next rate t count = refl

-- a path costs what its first step costs, and what the rest costs
pub cost-step : (rate : Rate) (invert : Bool) (t register bit : ℕ) (bits octets : List ℕ)
    → step_size rate t ≤ length octets
    → cost (path rate invert t register (bit ∷ bits)) octets
    ≡ cost (step_symbols rate invert t register bit) (take (step_size rate t) octets)
    + cost (path rate invert (t + 1) (next_register register bit) bits) (drop (step_size rate t) octets)
cost-step rate invert t register bit bits octets fit =
    let size = step_size rate t in
    let here = step_symbols rate invert t register bit in
    let rest = path rate invert (t + 1) (next_register register bit) bits in
    ap (λ v. cost (here ++ rest) v) (sym (take-append-drop size octets))
    ∙ cost-append here (take size octets) rest (drop size octets)
    (length-step_symbols rate invert t register bit ∙ sym (length-take-le size octets fit))

-- ---- the sum of a path, as it is added up
pub step_fits : (rate : Rate) (t place long count i : ℕ) → i < count → place ≤ long
    → long - place ≡ steps_size rate t (count - i) → place + step_size rate t ≤ long
step_fits rate t place long count i lt le left =
    let e : count - i ≡ suc (count - (i + 1)) = omega arith in
    omega (arith, left ∙ ap (steps_size rate t) e ∙ steps_size-next rate t (count - (i + 1)))

pub step_left : (rate : Rate) (t u place long count i : ℕ) → u ≡ t + 1 → i < count → place ≤ long
    → long - place ≡ steps_size rate t (count - i)
    → long - (place + step_size rate t) ≡ steps_size rate u (count - (i + 1))
step_left rate t u place long count i same lt le left =
    let e : count - i ≡ suc (count - (i + 1)) = omega arith in
    let h = left ∙ ap (steps_size rate t) e ∙ steps_size-next rate t (count - (i + 1)) in
    omega (arith, h, ap (λ v. steps_size rate v (count - (i + 1))) same)

pub sum-step : (rate : Rate) (invert : Bool) (t u register place end sum step total i : ℕ) (bits soft : List ℕ)
    → u ≡ t + 1 → i < length bits → end ≡ place + step_size rate t → end ≤ length soft
    → step ≡ cost (step_symbols rate invert t register (get_or bits i 0)) (take (end - place) (drop place soft))
    → sum + cost (path rate invert t register (drop i bits)) (drop place soft) ≡ total
    → sum + step + cost (path rate invert u (next_register register (get_or bits i 0)) (drop (i + 1) bits))
    (drop end soft) ≡ total
sum-step rate invert t u register place end sum step total i bits soft same lt to fit is h =
    let b = get_or bits i 0 in
    let rest = drop (i + 1) bits in
    let size = step_size rate t in
    let long : length (drop place soft) ≡ length soft - place = length-drop place soft in
    let first : cost (path rate invert t register (drop i bits)) (drop place soft)
    ≡ cost (path rate invert t register (b ∷ rest)) (drop place soft)
    = at_drop_more (λ v. cost (path rate invert t register v) (drop place soft)) bits i 0 lt in
    let split = cost-step rate invert t register b rest (drop place soft) (omega (arith, long)) in
    let width : end - place ≡ size = omega arith in
    let here : step ≡ cost (step_symbols rate invert t register b) (take size (drop place soft))
    = is ∙ ap (λ v. cost (step_symbols rate invert t register b) (take v (drop place soft))) width in
    let after : cost (path rate invert (t + 1) (next_register register b) rest) (drop size (drop place soft))
    ≡ cost (path rate invert u (next_register register b) rest) (drop end soft)
    =
    ap (λ v. cost (path rate invert (t + 1) (next_register register b) rest) v)
    (drop-drop size place soft ∙ ap (λ v. drop v soft) (sym to))
    ∙ ap (λ v. cost (path rate invert v (next_register register b) rest) (drop end soft)) (sym same) in
    omega (arith, first, split, here, after, h)

pub size-next : (rate : Rate) (first count t size : ℕ) → 0 < count → t ≡ first + (count - 1) → size ≡ step_size rate t
    → steps_size rate first (count - 1) + size ≡ steps_size rate first count
size-next rate first count t size some at is =
    let e : suc (count - 1) ≡ count = omega arith in
    omega (
      arith,
      is ∙ ap (step_size rate) at,
      sym (steps_size-suc rate first (count - 1))
          ∙ ap (steps_size rate first) e,
    )
