-- Octets have one slip, and undisturbed symbols none.
use Rattle.std.proofs.Common.{◌≡◌, ℕ, zero, suc, ◌+◌, ◌-◌, ◌*◌, ◌/◌, ◌<◌, ◌≤◌, ◌∙◌, min, refl, sym, subst, ap, arith, inl, inr, Bool, None, List, ◌++◌, length, take}
use Rattle.std.proofs.lemmas.Bool.{cases_lt}
use Rattle.std.proofs.lemmas.Bool.Decides.{nat_tests}
use Rattle.std.proofs.lemmas.List.Elements.{All-take}
use Rattle.tm_conv.specs.declared.rates.Rate.{Rate}
use Rattle.tm_conv.specs.Path.{AreBits, path, steps_size}
use Rattle.tm_conv.specs.Cost.{cost, sure}
use Rattle.tm_conv.specs.Best.{IsBest, IsCandidate}
use Rattle.tm_conv.proofs.Clean.{cost-sure, length-sure}
use Rattle.tm_viterbi.specs.Starts.{starts_from}
use Rattle.tm_viterbi.specs.Distances.{least_distances}
use Rattle.tm_viterbi.proofs.Distances.{least_distances-part}
use Rattle.tm_viterbi.proofs.CleanBlocks.{prefix-octets}
use Rattle.tm_viterbi.proofs.HasBlocks.{HasBest}
use Rattle.tm_windows.specs.Phase.{period_size, octets_at, IsCostAt, IsFirstLeast, IsCostAfter}
use Rattle.tm_windows.specs.Slip.{octets_seen, excess, decided, IsSlip}
use Rattle.tm_windows.proofs.Least.{IsCostAt-one, IsFirstLeast-one, IsFirstLeast-all, IsCostAfter-later}
use Rattle.tm_windows.proofs.Phases.{period_size-is, octets_at-prefix, FirstLeast-exists, IsCostAt-exists, IsCostAt-prefix, IsFirstLeast-prefix}

pub IsSlip-exists : HasBest → (rate : Rate) (invert : Bool) (t steps : ℕ) (octets : List ℕ)
    → octets_seen rate t steps ≤ length octets
    → (slip : ℕ) × IsSlip rate invert t steps octets slip
IsSlip-exists best rate invert t steps octets many =
    let fits : steps_size rate t steps ≤ length octets - (period_size rate - 1) = omega (arith, many) in
    let first = FirstLeast-exists best rate invert t steps octets fits in
    let unmoved = IsCostAt-exists best rate invert t steps octets 0 fits (omega (arith, period_size-is rate)) in (
      decided first.0 (excess first.1 (octets_at rate t steps octets first.0))
          (excess unmoved.0 (octets_at rate t steps octets 0)),
      record {
        number = first.0;
        amount = first.1;
        least = first.2;
        unmoved = unmoved.0;
        is_cost = unmoved.1;
        is = refl;
      },
    )

pub IsSlip-one : (rate : Rate) (invert : Bool) (t steps : ℕ) (octets : List ℕ) (slip other : ℕ)
    → IsSlip rate invert t steps octets slip
    → IsSlip rate invert t steps octets other → slip ≡ other
IsSlip-one rate invert t steps octets slip other a b =
    let one = IsCostAt-one rate invert t steps octets in
    let found = IsFirstLeast-one (IsCostAt rate invert t steps octets) one
    (period_size rate) a.number b.number a.amount b.amount a.least b.least in
    let unmoved : a.unmoved ≡ b.unmoved = one 0 a.unmoved b.unmoved a.is_cost b.is_cost in
    let chosen : ℕ → ℕ → ℕ → ℕ = λ number amount unmoved.
    decided number (excess amount (octets_at rate t steps octets number))
    (excess unmoved (octets_at rate t steps octets 0)) in
    a.is ∙ (λ i. chosen (found.0 i) (found.1 i) (unmoved i)) ∙ sym b.is

-- ---- candidates that can neither be taken nor stand in the way

decided-not : (number moved unmoved : ℕ) → 3 * unmoved ≤ 4 * moved → decided number moved unmoved ≡ 0
decided-not number moved unmoved much = grind (arith, nat_tests)

decided-none : (moved unmoved : ℕ) → decided 0 moved unmoved ≡ 0
decided-none moved unmoved = grind (arith, nat_tests)

-- nothing is dropped, where the first of least cost has too great an excess, or is 0
none_dropped : HasBest → (rate : Rate) (invert : Bool) (t steps : ℕ) (octets : List ℕ) (unmoved : ℕ)
    → octets_seen rate t steps ≤ length octets → IsCostAt rate invert t steps octets 0 unmoved
    → ((number amount : ℕ) → 0 < number
    → IsFirstLeast (IsCostAt rate invert t steps octets) (period_size rate) number amount
    → 3 * excess unmoved (octets_at rate t steps octets 0) ≤ 4 * excess amount (octets_at rate t steps octets number))
    → IsSlip rate invert t steps octets 0
none_dropped best rate invert t steps octets unmoved many is much =
    let first = FirstLeast-exists best rate invert t steps octets (omega (arith, many)) in
    let still = excess unmoved (octets_at rate t steps octets 0) in
    record {
      number = first.0;
      amount = first.1;
      least = first.2;
      unmoved = unmoved;
      is_cost = is;
      is = sym (nothing first.0 first.1 first.2);
    }
  where
    nothing : (number amount : ℕ)
        → IsFirstLeast (IsCostAt rate invert t steps octets) (period_size rate) number amount
        → decided number (excess amount (octets_at rate t steps octets number))
        (excess unmoved (octets_at rate t steps octets 0)) ≡ 0
    nothing zero amount h =
        decided-none (excess amount (octets_at rate t steps octets 0)) (excess unmoved (octets_at rate t steps octets 0))
    nothing (suc number) amount h =
        decided-not (suc number) (excess amount (octets_at rate t steps octets (suc number)))
        (excess unmoved (octets_at rate t steps octets 0)) (much (suc number) amount (omega arith) h)

pub IsSlip-undisturbed : HasBest → (rate : Rate) (invert : Bool) (t steps : ℕ) (octets : List ℕ) (unmoved : ℕ)
    → octets_seen rate t steps ≤ length octets → IsCostAt rate invert t steps octets 0 unmoved
    → excess unmoved (octets_at rate t steps octets 0) ≡ 0 → IsSlip rate invert t steps octets 0
IsSlip-undisturbed best rate invert t steps octets unmoved many is free =
    none_dropped best rate invert t steps octets unmoved many is (λ number amount some h. omega (arith, free))

-- so it is enough to know the costs below what one that is taken costs less than
pub IsSlip-below : HasBest → (rate : Rate) (invert : Bool) (t steps : ℕ) (octets : List ℕ)
    (number amount unmoved bound : ℕ) → octets_seen rate t steps ≤ length octets
    → IsCostAt rate invert t steps octets 0 unmoved
    → bound ≡ least_distances (take (octets_seen rate t steps) octets)
    + (3 * excess unmoved (octets_at rate t steps octets 0) + 3) / 4
    → IsFirstLeast (IsCostAfter (min unmoved bound) (IsCostAt rate invert t steps octets)) (period_size rate) number
    amount
    → IsSlip rate invert t steps octets
    (decided number (excess amount (octets_at rate t steps octets number))
    (excess unmoved (octets_at rate t steps octets 0)))
IsSlip-below best rate invert t steps octets zero amount unmoved bound many is same h =
    let still = excess unmoved (octets_at rate t steps octets 0) in
    subst (IsSlip rate invert t steps octets)
    (sym (decided-none (excess amount (octets_at rate t steps octets 0)) still))
    (none_dropped best rate invert t steps octets unmoved many is
    (λ number more some first.
    let lower = h.least number more first.below
    (IsCostAfter-later (min unmoved bound) (IsCostAt rate invert t steps octets) number more some first.is) in
    omega (
      arith,
      h.is,
      lower,
      first.first 0 unmoved some is,
      same,
      least_distances-part number (steps_size rate t steps) (octets_seen rate t steps) octets
          (omega (arith, first.below)),
    )))
IsSlip-below best rate invert t steps octets (suc number) amount unmoved bound many is same h = record {
  number = suc number;
  amount = amount;
  least =
      IsFirstLeast-all (IsCostAt rate invert t steps octets) (IsCostAt-one rate invert t steps octets)
      (period_size rate) (suc number) amount (min unmoved bound) unmoved is (omega arith) h.is h;
  unmoved = unmoved;
  is_cost = is;
  is = refl;
}

-- ---- a slip is below the symbols of a period, and octets that follow change nothing

decided-below : (number moved unmoved size : ℕ) → number < size → decided number moved unmoved < size
decided-below number moved unmoved size below = grind (arith, nat_tests)

pub IsSlip-within : (rate : Rate) (invert : Bool) (t steps : ℕ) (octets : List ℕ) (slip : ℕ)
    → IsSlip rate invert t steps octets slip → slip < period_size rate
IsSlip-within rate invert t steps octets slip h =
    let here = excess h.amount (octets_at rate t steps octets h.number) in
    let first = excess h.unmoved (octets_at rate t steps octets 0) in
    omega (arith, h.is, decided-below h.number here first (period_size rate) h.least.below)

pub IsSlip-prefix : (rate : Rate) (invert : Bool) (t steps : ℕ) (octets more : List ℕ) (slip : ℕ)
    → octets_seen rate t steps ≤ length octets
    → IsSlip rate invert t steps octets slip → IsSlip rate invert t steps (octets ++ more) slip
IsSlip-prefix rate invert t steps octets more slip many h =
    let some : 0 < period_size rate = omega (arith, period_size-is rate) in
    let here = sym (octets_at-prefix rate t steps octets more h.number many h.least.below) in
    let first = sym (octets_at-prefix rate t steps octets more 0 many some) in
    record {
      number = h.number;
      amount = h.amount;
      least = IsFirstLeast-prefix rate invert t steps octets more h.number h.amount many h.least;
      unmoved = h.unmoved;
      is_cost = IsCostAt-prefix rate invert t steps octets more 0 h.unmoved many some h.is_cost;
      is = h.is ∙ (λ i. decided h.number (excess h.amount (here i)) (excess h.unmoved (first i)));
    }

-- ---- undisturbed symbols

-- the path that was sent costs nothing where nothing is dropped, and so this candidate is the first of least cost
pub IsSlip-sure : (rate : Rate) (invert : Bool) (t steps register : ℕ) (bits : List ℕ) (slip : ℕ) → AreBits bits
    → register < 64 → steps ≤ length bits
    → IsSlip rate invert t steps (sure (path rate invert t register bits)) slip → slip ≡ 0
IsSlip-sure rate invert t steps register bits slip are small few h =
    let octets = sure (path rate invert t register bits) in
    let symbols = path rate invert t register (take steps bits) in
    let found = h.is_cost in
    let P : List ℕ → Type 0 = λ l. IsBest (starts_from None) rate invert t l found.initial found.bits
    × (h.unmoved ≡ cost (path rate invert t found.initial found.bits) l) in
    let there : P (sure symbols) = subst P (prefix-octets rate invert t register steps bits few).0
    (found.best, found.is) in
    let was_sent : IsCandidate (starts_from None) rate invert t (sure symbols) register (take steps bits) = record {
      start = refl;
      register = small;
      each = All-take (λ bit. bit < 2) steps bits are;
      covers = sym (length-sure symbols);
    } in
    let free : h.unmoved ≡ 0 = omega (
      arith,
      there.1,
      there.0.least register (take steps bits) was_sent,
      cost-sure symbols,
    ) in
    let none : h.number ≡ 0 = elim (cases_lt 0 h.number) as (λ _. h.number ≡ 0) [
      | inl some ↦ absurd (omega (arith, h.least.first 0 h.unmoved some found, free))
      | inr first ↦ omega (arith, first)
    ] in
    let here = excess h.amount (octets_at rate t steps octets h.number) in
    let first = excess h.unmoved (octets_at rate t steps octets 0) in
    h.is ∙ ap (λ (n : ℕ). decided n here first) none ∙ decided-none here first
