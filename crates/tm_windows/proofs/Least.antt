-- The first of least cost, as one candidate more is tried.
use Rattle.std.proofs.Common.{◌≡◌, ℕ, zero, suc, ◌+◌, ◌<◌, ◌≤◌, ◌∙◌, refl, sym, subst, arith, inl, inr, Bool, List}
use Rattle.std.proofs.lemmas.Bool.{cases_lt, cases_order}
use Rattle.tm_conv.specs.declared.rates.Rate.{Rate}
use Rattle.tm_windows.specs.Phase.{IsCostAt, IsFirstLeast, IsCostAfter}

-- each number has at most one cost
abbrev pub HasOne : (ℕ → ℕ → Type 0) → Type 0
HasOne IsCost = (number amount more : ℕ) → IsCost number amount → IsCost number more → amount ≡ more

pub IsCostAt-one : (rate : Rate) (invert : Bool) (t steps : ℕ) (octets : List ℕ)
    → HasOne (IsCostAt rate invert t steps octets)
IsCostAt-one rate invert t steps octets number amount more a b =
    omega (
      arith,
      a.is,
      b.is,
      a.best.least b.initial b.bits b.best.candidate,
      b.best.least a.initial a.bits a.best.candidate,
    )

pub IsFirstLeast-alone : (IsCost : ℕ → ℕ → Type 0) → HasOne IsCost → (amount : ℕ) → IsCost 0 amount
    → IsFirstLeast IsCost 1 0 amount
IsFirstLeast-alone IsCost one amount is = record {
  below = omega arith;
  is = is;
  least =
      λ other more lt cost. (let same : other ≡ 0 = omega arith in
      omega (arith, one 0 amount more is (subst (λ (k : ℕ). IsCost k more) same cost)));
  first = λ other more lt cost. absurd (omega arith);
}

-- what holds of each cost below a number, and of its own, holds of each below the next
one_more : (IsCost : ℕ → ℕ → Type 0) (low count : ℕ) → ((other more : ℕ) → other < count → IsCost other more
    → low ≤ more)
    → ((more : ℕ) → IsCost count more → low ≤ more) → (other more : ℕ) → other < count + 1 → IsCost other more
    → low ≤ more
one_more IsCost low count below here other more lt cost = elim (cases_order other count) as (λ _. low ≤ more) [
  | inl same ↦ here more (subst (λ (k : ℕ). IsCost k more) same cost)
  | inr (inl less) ↦ below other more less cost
  | inr (inr greater) ↦ absurd (omega arith)
]

pub IsFirstLeast-takes : (IsCost : ℕ → ℕ → Type 0) → HasOne IsCost → (count number amount next : ℕ)
    → IsFirstLeast IsCost count number amount
    → IsCost count next → next < amount → IsFirstLeast IsCost (count + 1) count next
IsFirstLeast-takes IsCost one count number amount next h is less = record {
  below = omega arith;
  is = is;
  least =
      one_more IsCost next count (λ other more lt cost. omega (arith, h.least other more lt cost))
      (λ more cost. omega (arith, one count next more is cost));
  first = λ other more lt cost. omega (arith, h.least other more lt cost);
}

pub IsFirstLeast-keeps : (IsCost : ℕ → ℕ → Type 0) → HasOne IsCost → (count number amount next : ℕ)
    → IsFirstLeast IsCost count number amount
    → IsCost count next → amount ≤ next → IsFirstLeast IsCost (count + 1) number amount
IsFirstLeast-keeps IsCost one count number amount next h is le = record {
  below = omega (arith, h.below);
  is = h.is;
  least = one_more IsCost amount count h.least (λ more cost. omega (arith, one count next more is cost));
  first = h.first;
}

-- of some numbers that have a cost each, one is the first of least cost
pub IsFirstLeast-exists : (IsCost : ℕ → ℕ → Type 0) → HasOne IsCost → (count : ℕ)
    → ((number : ℕ) → number < suc count → (amount : ℕ) × IsCost number amount)
    → (number : ℕ) × (amount : ℕ) × IsFirstLeast IsCost (suc count) number amount
IsFirstLeast-exists IsCost one zero each =
    let first = each 0 (omega arith) in
    (0, first.0, IsFirstLeast-alone IsCost one first.0 first.1)
IsFirstLeast-exists IsCost one (suc count) each =
    let before = IsFirstLeast-exists IsCost one count (λ number lt. each number (omega arith)) in
    let last = each (suc count) (omega arith) in
    let at : suc count + 1 ≡ suc (suc count) = omega arith in
    elim (cases_lt last.0 before.1) [
      | inl less ↦ (
        suc count,
        last.0,
        subst (λ (n : ℕ). IsFirstLeast IsCost n (suc count) last.0) at
            (IsFirstLeast-takes IsCost one (suc count) before.0 before.1 last.0 before.2 last.1 less),
      )
      | inr le ↦ (
        before.0,
        before.1,
        subst (λ (n : ℕ). IsFirstLeast IsCost n before.0 before.1) at
            (IsFirstLeast-keeps IsCost one (suc count) before.0 before.1 last.0 before.2 last.1 le),
      )
    ]

pub IsFirstLeast-one : (IsCost : ℕ → ℕ → Type 0) → HasOne IsCost → (count number other amount more : ℕ)
    → IsFirstLeast IsCost count number amount
    → IsFirstLeast IsCost count other more → (number ≡ other) × (amount ≡ more)
IsFirstLeast-one IsCost one count number other amount more h k = elim (cases_order number other) [
  | inl same ↦ (same, one other amount more (subst (λ (n : ℕ). IsCost n amount) same h.is) k.is)
  | inr (inl less) ↦ absurd (omega (arith, k.first number amount less h.is, h.least other more k.below k.is))
  | inr (inr greater) ↦ absurd (omega (arith, h.first other more greater k.is, k.least number amount h.below h.is))
]

-- numbers below `count` have the same costs either way
pub IsFirstLeast-same : (IsCost IsOther : ℕ → ℕ → Type 0) (count number amount : ℕ)
    → ((other more : ℕ) → other < count → IsCost other more → IsOther other more)
    → ((other more : ℕ) → other < count → IsOther other more → IsCost other more)
    → IsFirstLeast IsCost count number amount → IsFirstLeast IsOther count number amount
IsFirstLeast-same IsCost IsOther count number amount to from h = record {
  below = h.below;
  is = to number amount h.below h.is;
  least = λ other more lt cost. h.least other more lt (from other more lt cost);
  first = λ other more lt cost. h.first other more lt (from other more (omega (arith, h.below)) cost);
}

-- ---- where 0 has a cost of its own

pub IsCostAfter-one : (low : ℕ) (IsCost : ℕ → ℕ → Type 0) → HasOne IsCost → HasOne (IsCostAfter low IsCost)
IsCostAfter-one low IsCost one zero amount more a b = a ∙ sym b
IsCostAfter-one low IsCost one (suc number) amount more a b = one (suc number) amount more a b

pub IsCostAfter-later : (low : ℕ) (IsCost : ℕ → ℕ → Type 0) (number amount : ℕ) → 0 < number → IsCost number amount
    → IsCostAfter low IsCost number amount
IsCostAfter-later low IsCost zero amount some is = absurd (omega (arith, some))
IsCostAfter-later low IsCost (suc number) amount some is = is

pub IsCostAfter-all : (first : ℕ) (IsCost : ℕ → ℕ → Type 0) (number amount : ℕ) → IsCost 0 first
    → IsCostAfter first IsCost number amount → IsCost number amount
IsCostAfter-all first IsCost zero amount is after = subst (IsCost 0) (sym after) is
IsCostAfter-all first IsCost (suc number) amount is after = after

-- the first of least cost is that of all, where what 0 costs is no less
pub IsFirstLeast-all : (IsCost : ℕ → ℕ → Type 0) → HasOne IsCost → (count number amount low first : ℕ)
    → IsCost 0 first → low ≤ first → IsCost number amount
    → IsFirstLeast (IsCostAfter low IsCost) count number amount → IsFirstLeast IsCost count number amount
IsFirstLeast-all IsCost one count number amount low first here le is h = record {
  below = h.below;
  is = is;
  least = least;
  first = before;
}
  where
    least : (other more : ℕ) → other < count → IsCost other more → amount ≤ more
    least zero more lt cost = omega (arith, h.least 0 low lt refl, le, one 0 first more here cost)
    least (suc other) more lt cost = h.least (suc other) more lt cost

    before : (other more : ℕ) → other < number → IsCost other more → amount < more
    before zero more lt cost = omega (arith, h.first 0 low lt refl, le, one 0 first more here cost)
    before (suc other) more lt cost = h.first (suc other) more lt cost
