-- The steps that are compared, and that octets have one phase.
use Rattle.std.proofs.Common.{◌≡◌, ℕ, ◌+◌, ◌-◌, ◌<◌, ◌≤◌, ◌∙◌, min, refl, sym, ap, subst, arith, inl, inr, Bool, None, List, [], ◌++◌, length, take, drop, length-drop, length-append}
use Rattle.std.proofs.lemmas.Bool.{cases_lt}
use Rattle.std.proofs.lemmas.List.{length-take-le, take-append-le, drop-append-le}
use Rattle.tm_conv.specs.declared.rates.Rate.{Rate}
use Rattle.tm_conv.specs.declared.rates.Rate.TheVariants.{R12, R23, R34, R56, R78}
use Rattle.tm_conv.specs.Path.{path, period, steps_size}
use Rattle.tm_conv.specs.Cost.{cost}
use Rattle.tm_conv.specs.Best.{IsBest}
use Rattle.tm_conv.proofs.Sizes.{steps_size_ge}
use Rattle.tm_viterbi.specs.Starts.{starts_from}
use Rattle.tm_viterbi.specs.Blocks.{AreSteps}
use Rattle.tm_viterbi.proofs.CleanBlocks.{steps-mono}
use Rattle.tm_viterbi.proofs.HasBlocks.{HasBest}
use Rattle.tm_windows.specs.declared.choosing.Chosen.{Chosen}
use Rattle.tm_windows.specs.Phase.{period_size, octets_needed, octets_at, AreCompared, IsCostAt, IsFirstLeast, IsPhase}
use Rattle.tm_windows.proofs.Steps.{left_over, whole_steps}
use Rattle.tm_windows.proofs.Least.{IsCostAt-one, IsFirstLeast-exists, IsFirstLeast-one, IsFirstLeast-same}

pub period_size-is : (rate : Rate) → period_size rate ≡ period rate + 1
unfolding steps_size
period_size-is R12 = refl
period_size-is R23 = refl
period_size-is R34 = refl
period_size-is R56 = refl
period_size-is R78 = refl

pub period_size_most : (rate : Rate) → period_size rate ≤ 8
period_size_most R12 = omega (arith, period_size-is R12)
period_size_most R23 = omega (arith, period_size-is R23)
period_size_most R34 = omega (arith, period_size-is R34)
period_size_most R56 = omega (arith, period_size-is R56)
period_size_most R78 = omega (arith, period_size-is R78)

-- ---- the steps that are compared

pub compared : (rate : Rate) (window : ℕ) (octets : List ℕ) (size : ℕ)
    → size + left_over (period rate) (length octets - (period_size rate - 1)) ≡ length octets - (period_size rate - 1)
    → (steps : ℕ) × AreCompared rate window octets steps × (min size (steps_size rate 0 window)
    ≡ steps_size rate 0 steps)
compared rate window octets size h =
    let room : ℕ = length octets - (period_size rate - 1) in
    let found = whole_steps rate room size h in
    let count = found.0 in
    let long : length (drop (period_size rate - 1) octets) ≡ room = length-drop (period_size rate - 1) octets in
    let are : AreSteps rate 0 (drop (period_size rate - 1) octets) count = record {
      whole = omega (arith, found.1.is, found.1.fits, long);
      most = omega (arith, found.1.most, long);
    } in (
      min window count,
      record { most = count; whole = are; lesser = refl },
      elim (cases_lt window count) as (λ _. min size (steps_size rate 0 window)
          ≡ steps_size rate 0 (min window count)) [
            | inl less ↦ (let same : min window count ≡ window = omega arith in
                omega (arith, found.1.is, steps-mono rate 0 window count (omega arith), ap (steps_size rate 0) same))
            | inr le ↦ (let same : min window count ≡ count = omega arith in
                omega (arith, found.1.is, steps-mono rate 0 count window le, ap (steps_size rate 0) same))
          ],
    )

pub AreCompared-exists : (rate : Rate) (window : ℕ) (octets : List ℕ) → (steps : ℕ)
    × AreCompared rate window octets steps
AreCompared-exists rate window octets =
    let room : ℕ = length octets - (period_size rate - 1) in
    let found = compared rate window octets (room - left_over (period rate) room) (omega arith) in
    (found.0, found.1)

-- as many steps as fit are no more than the whole ones
no_more : (rate : Rate) (octets : List ℕ) (steps whole : ℕ) → steps_size rate 0 steps ≤ length octets
    → AreSteps rate 0 octets whole → steps ≤ whole
no_more rate octets steps whole fits are = elim (cases_lt whole steps) as (λ _. steps ≤ whole) [
  | inl less ↦ absurd (omega (arith, fits, are.most, steps-mono rate 0 (whole + 1) steps (omega arith)))
  | inr le ↦ le
]

pub AreCompared-one : (rate : Rate) (window : ℕ) (octets : List ℕ) (steps other : ℕ)
    → AreCompared rate window octets steps → AreCompared rate window octets other → steps ≡ other
AreCompared-one rate window octets steps other a b =
    let rest = drop (period_size rate - 1) octets in
    omega (
      arith,
      a.lesser,
      b.lesser,
      no_more rate rest a.most b.most a.whole.whole b.whole,
      no_more rate rest b.most a.most b.whole.whole a.whole,
    )

-- they fit after every candidate
pub compared_fit : (rate : Rate) (window : ℕ) (octets : List ℕ) (steps : ℕ) → AreCompared rate window octets steps
    → steps_size rate 0 steps ≤ length octets - (period_size rate - 1)
compared_fit rate window octets steps h =
    omega (
      arith,
      h.lesser,
      h.whole.whole,
      length-drop (period_size rate - 1) octets,
      steps-mono rate 0 steps h.most (omega (arith, h.lesser)),
    )

pub length-octets_at : (rate : Rate) (t steps : ℕ) (octets : List ℕ) (skip : ℕ)
    → steps_size rate t steps ≤ length octets - (period_size rate - 1) → skip < period_size rate
    → length (octets_at rate t steps octets skip) ≡ steps_size rate t steps
length-octets_at rate t steps octets skip fits lt =
    length-take-le (steps_size rate t steps) (drop skip octets) (omega (arith, fits, length-drop skip octets))

-- a slice of as many octets as these steps send
pub slice-octets_at : (rate : Rate) (t steps : ℕ) (octets : List ℕ) (skip from size : ℕ) → from ≡ skip
    → size ≡ steps_size rate t steps
    → take (from + size - from) (drop from octets) ≡ octets_at rate t steps octets skip
slice-octets_at rate t steps octets skip from size same is =
    let whole : from + size - from ≡ steps_size rate t steps = omega (arith, is) in
    ap (λ (n : ℕ). take n (drop from octets)) whole ∙ ap (λ (k : ℕ). take (steps_size rate t steps) (drop k octets))
    same

-- what the best path over octets costs, from any register at step t
abbrev pub Costs : Rate → Bool → ℕ → ℕ → List ℕ → Type 0
Costs rate invert t amount soft =
    (initial : ℕ) × (bits : List ℕ) × IsBest (starts_from None) rate invert t soft initial bits
    × (amount ≡ cost (path rate invert t initial bits) soft)

pub IsCostAt-from : (rate : Rate) (invert : Bool) (t steps : ℕ) (octets : List ℕ) (skip amount : ℕ) (soft : List ℕ)
    → soft ≡ octets_at rate t steps octets skip
    → Costs rate invert t amount soft → IsCostAt rate invert t steps octets skip amount
IsCostAt-from rate invert t steps octets skip amount soft same h =
    let moved = subst (Costs rate invert t amount) same h in
    record { initial = moved.0; bits = moved.1; best = moved.2; is = moved.3 }

-- a cost is that of the octets, wherever they stand
IsCostAt-at : (rate : Rate) (invert : Bool) (t steps : ℕ) (octets others : List ℕ) (skip other amount : ℕ)
    → octets_at rate t steps octets skip ≡ octets_at rate t steps others other
    → IsCostAt rate invert t steps octets skip amount → IsCostAt rate invert t steps others other amount
IsCostAt-at rate invert t steps octets others skip other amount same h =
    IsCostAt-from rate invert t steps others other amount (octets_at rate t steps octets skip) same
    (h.initial, h.bits, h.best, h.is)

octets_at-none : (rate : Rate) (steps : ℕ) (octets : List ℕ) (skip : ℕ) → steps_size rate 0 steps ≡ 0
    → octets_at rate 0 steps octets skip ≡ []
octets_at-none rate steps octets skip none = ap (λ (n : ℕ). take n (drop skip octets)) none

-- where nothing is compared, the first candidate costs as little as any
pub IsFirstLeast-nothing : (rate : Rate) (invert : Bool) (steps : ℕ) (octets : List ℕ) (amount : ℕ)
    → steps_size rate 0 steps ≡ 0 → IsCostAt rate invert 0 steps octets 0 amount
    → IsFirstLeast (IsCostAt rate invert 0 steps octets) (period_size rate) 0 amount
IsFirstLeast-nothing rate invert steps octets amount none is = record {
  below = omega (arith, period_size-is rate);
  is = is;
  least = λ other more lt cost.
      let same = octets_at-none rate steps octets other none ∙ sym (octets_at-none rate steps octets 0 none) in
      omega (
        arith,
        IsCostAt-one rate invert 0 steps octets 0 amount more is
            (IsCostAt-at rate invert 0 steps octets octets other 0 more same cost),
      );
  first = λ other more lt cost. absurd (omega arith);
}

pub octets_at-prefix : (rate : Rate) (t steps : ℕ) (octets more : List ℕ) (skip : ℕ)
    → steps_size rate t steps + (period_size rate - 1) ≤ length octets → skip < period_size rate
    → octets_at rate t steps (octets ++ more) skip ≡ octets_at rate t steps octets skip
octets_at-prefix rate t steps octets more skip many lt =
    ap (take (steps_size rate t steps)) (drop-append-le skip octets more (omega (arith, many, lt)))
    ∙ take-append-le (steps_size rate t steps) (drop skip octets) more
    (omega (arith, many, lt, length-drop skip octets))

pub IsCostAt-prefix : (rate : Rate) (invert : Bool) (t steps : ℕ) (octets more : List ℕ) (skip amount : ℕ)
    → steps_size rate t steps + (period_size rate - 1) ≤ length octets
    → skip < period_size rate → IsCostAt rate invert t steps octets skip amount
    → IsCostAt rate invert t steps (octets ++ more) skip amount
IsCostAt-prefix rate invert t steps octets more skip amount many lt =
    IsCostAt-at rate invert t steps octets (octets ++ more) skip skip amount
    (sym (octets_at-prefix rate t steps octets more skip many lt))

pub IsCostAt-exists : HasBest → (rate : Rate) (invert : Bool) (t steps : ℕ) (octets : List ℕ) (skip : ℕ)
    → steps_size rate t steps ≤ length octets - (period_size rate - 1)
    → skip < period_size rate → (amount : ℕ) × IsCostAt rate invert t steps octets skip amount
IsCostAt-exists best rate invert t steps octets skip fits lt =
    let there = best (starts_from None) rate invert t steps 0 (octets_at rate t steps octets skip) refl (omega arith)
    (length-octets_at rate t steps octets skip fits lt) in (
      cost (path rate invert t there.0 there.1) (octets_at rate t steps octets skip),
      record { initial = there.0; bits = there.1; best = there.2; is = refl },
    )

-- where all are inside, one candidate is the first of least cost
pub FirstLeast-exists : HasBest → (rate : Rate) (invert : Bool) (t steps : ℕ) (octets : List ℕ)
    → steps_size rate t steps ≤ length octets - (period_size rate - 1)
    → (number : ℕ) × (amount : ℕ) × IsFirstLeast (IsCostAt rate invert t steps octets) (period_size rate) number amount
FirstLeast-exists best rate invert t steps octets fits =
    let Cost : ℕ → ℕ → Type 0 = IsCostAt rate invert t steps octets in
    let first = IsFirstLeast-exists Cost (IsCostAt-one rate invert t steps octets) (period rate)
    (λ skip lt. IsCostAt-exists best rate invert t steps octets skip fits (omega (arith, lt, period_size-is rate))) in (
      first.0,
      first.1,
      subst (λ (n : ℕ). IsFirstLeast Cost n first.0 first.1)
          (omega (arith, period_size-is rate)) first.2,
    )

-- octets that follow change no candidate
pub IsFirstLeast-prefix : (rate : Rate) (invert : Bool) (t steps : ℕ) (octets more : List ℕ) (number amount : ℕ)
    → steps_size rate t steps + (period_size rate - 1) ≤ length octets
    → IsFirstLeast (IsCostAt rate invert t steps octets) (period_size rate) number amount
    → IsFirstLeast (IsCostAt rate invert t steps (octets ++ more)) (period_size rate) number amount
IsFirstLeast-prefix rate invert t steps octets more number amount many least =
    IsFirstLeast-same (IsCostAt rate invert t steps octets) (IsCostAt rate invert t steps (octets ++ more))
    (period_size rate) number amount
    (λ other cost lt. IsCostAt-prefix rate invert t steps octets more other cost many lt)
    (λ other cost lt. IsCostAt-at rate invert t steps (octets ++ more) octets other other cost
    (octets_at-prefix rate t steps octets more other many lt)) least

-- ---- one phase

pub IsPhase-exists : HasBest → (rate : Rate) (invert : Bool) (window : ℕ) (octets : List ℕ) → (chosen : Chosen)
    × IsPhase rate invert window octets chosen
IsPhase-exists best rate invert window octets =
    let found = AreCompared-exists rate window octets in
    let first = FirstLeast-exists best rate invert 0 found.0 octets (compared_fit rate window octets found.0 found.1) in
    (record { skip = first.0; cost = first.1 }, record { steps = found.0; compared = found.1; least = first.2 })

pub IsPhase-one : (rate : Rate) (invert : Bool) (window : ℕ) (octets : List ℕ) (chosen other : Chosen)
    → IsPhase rate invert window octets chosen
    → IsPhase rate invert window octets other → chosen ≡ other
IsPhase-one rate invert window octets chosen other a b =
    let same = AreCompared-one rate window octets b.steps a.steps b.compared a.compared in
    let found = IsFirstLeast-one (IsCostAt rate invert 0 a.steps octets) (IsCostAt-one rate invert 0 a.steps octets)
    (period_size rate) chosen.skip other.skip chosen.cost other.cost a.least
    (subst (λ (n : ℕ). IsFirstLeast (IsCostAt rate invert 0 n octets) (period_size rate) other.skip other.cost) same
    b.least) in
    let make : ℕ → ℕ → Chosen = λ skip cost. record { skip = skip; cost = cost } in
    ap (λ (v : ℕ). make v chosen.cost) found.0 ∙ ap (λ (v : ℕ). make other.skip v) found.1

-- where nothing is compared the first candidate is chosen, and else all are inside
pub IsPhase-within : (rate : Rate) (invert : Bool) (window : ℕ) (octets : List ℕ) (chosen : Chosen)
    → IsPhase rate invert window octets chosen → chosen.skip ≤ length octets
IsPhase-within rate invert window octets chosen h =
    let fit = compared_fit rate window octets h.steps h.compared in
    elim (cases_lt 0 (steps_size rate 0 h.steps)) as (λ _. chosen.skip ≤ length octets) [
      | inl some ↦ omega (arith, fit, h.least.below)
      | inr none ↦ elim (cases_lt 0 chosen.skip) as (λ _. chosen.skip ≤ length octets) [
        | inl skips ↦ absurd
            (let zero : steps_size rate 0 h.steps ≡ 0 = omega (arith, none) in
            let first = IsCostAt-at rate invert 0 h.steps octets octets chosen.skip 0 chosen.cost
            (octets_at-none rate h.steps octets chosen.skip zero
            ∙ sym (octets_at-none rate h.steps octets 0 zero)) h.least.is in
            omega (arith, h.least.first 0 chosen.cost skips first))
        | inr first ↦ omega (arith, first)
      ]
    ]

-- ---- the whole window

pub needed-if_compared : (rate : Rate) (window : ℕ) (octets : List ℕ) → 1 ≤ window
    → AreCompared rate window octets window → octets_needed rate window ≤ length octets
needed-if_compared rate window octets some h =
    omega (arith, compared_fit rate window octets window h, steps_size_ge rate 0 window)

pub compared-if_needed : (rate : Rate) (window : ℕ) (octets : List ℕ) → octets_needed rate window ≤ length octets
    → AreCompared rate window octets window
compared-if_needed rate window octets many =
    let found = AreCompared-exists rate window octets in
    let h = found.1 in
    let le = no_more rate (drop (period_size rate - 1) octets) window h.most
    (omega (arith, many, length-drop (period_size rate - 1) octets)) h.whole in
    let same : found.0 ≡ window = omega (arith, h.lesser, le) in
    subst (λ (n : ℕ). AreCompared rate window octets n) same h

pub IsPhase-prefix : (rate : Rate) (invert : Bool) (window : ℕ) (octets more : List ℕ) (chosen : Chosen)
    → octets_needed rate window ≤ length octets
    → IsPhase rate invert window octets chosen → IsPhase rate invert window (octets ++ more) chosen
IsPhase-prefix rate invert window octets more chosen many h =
    let there = compared-if_needed rate window octets many in
    let same : h.steps ≡ window = AreCompared-one rate window octets h.steps window h.compared there in
    let least = subst (λ (n : ℕ). IsFirstLeast (IsCostAt rate invert 0 n octets)
    (period_size rate) chosen.skip chosen.cost) same h.least in
    record {
      steps = window;
      compared = compared-if_needed rate window (octets ++ more) (omega (arith, many, length-append octets more));
      least = IsFirstLeast-prefix rate invert 0 window octets more chosen.skip chosen.cost many least;
    }
