-- The four sums of a butterfly, lane by lane.
use Rattle.std.proofs.Common.{◌≡◌, ℕ, ◌+◌, ◌-◌, ◌*◌, ◌/◌, ◌%◌, ◌^◌, ◌<◌, ◌∙◌, min, cond, ltb, sym, ap, get_or, arith, List, ◌++◌, inl, inr}
use Rattle.std.proofs.lemmas.List.{get_or_append_left, get_or-append_right}
use Rattle.std.proofs.lemmas.Bool.{cases_lt}
use Rattle.std.proofs.lemmas.Nat.Bits.{bit_at_cat_low, bit_at_cat_high}
use Rattle.tm_conv.specs.Path.{c1, c2}
use Rattle.tm_viterbi.specs.AddCompareSelect.{first_metric, second_metric, sum_via, IsEach, IsNextSums, AreSurvivors}

-- the two pairs of symbols of a butterfly: over the low and the high register, by 0 and by 1
pair_one : (i : ℕ) → i < 32 → 2 * c1 (2 * i) 1 + c2 (2 * i) 1 ≡ 2 * c1 (2 * i + 1) 0 + c2 (2 * i + 1) 0
pair_one i lt = omega arith

pair_other : (i : ℕ) → i < 32 → 2 * c1 (2 * i + 1) 1 + c2 (2 * i + 1) 1 ≡ 2 * c1 (2 * i) 0 + c2 (2 * i) 0
pair_other i lt = omega arith

-- what the lanes hold
pub record AreLanes (sums metrics even odd near far : List ℕ) : Type 0 where
  pub evens : IsEach even (λ i. get_or sums (2 * i) 0)
  pub odds : IsEach odd (λ i. get_or sums (2 * i + 1) 0)
  pub nears : IsEach near (λ i. get_or metrics (2 * c1 (2 * i) 0 + c2 (2 * i) 0) 0)
  pub fars : IsEach far (λ i. get_or metrics (2 * c1 (2 * i + 1) 0 + c2 (2 * i + 1) 0) 0)

-- the path metrics into register s, in lane i
pub record AreMetrics (sums metrics : List ℕ) (s one other : ℕ) : Type 0 where
  pub first : first_metric sums metrics s ≡ one
  pub second : second_metric sums metrics s ≡ other

metrics_at : (sums metrics : List ℕ) (s i b : ℕ) → s % 32 ≡ i → s / 32 ≡ b
    → AreMetrics sums metrics s (sum_via sums metrics (2 * i) b) (sum_via sums metrics (2 * i + 1) b)
metrics_at sums metrics s i b m q = record {
  first = ap (λ v. sum_via sums metrics (2 * v) (s / 32)) m ∙ ap (λ v. sum_via sums metrics (2 * i) v) q;
  second = ap (λ v. sum_via sums metrics (2 * v + 1) (s / 32)) m ∙ ap (λ v. sum_via sums metrics (2 * i + 1) v) q;
}

pub low_metric : (sums metrics : List ℕ) (s : ℕ) → s < 32
    → AreMetrics sums metrics s (get_or sums (2 * s) 0 + get_or metrics (2 * c1 (2 * s) 0 + c2 (2 * s) 0) 0)
    (get_or sums (2 * s + 1) 0 + get_or metrics (2 * c1 (2 * s + 1) 0 + c2 (2 * s + 1) 0) 0)
low_metric sums metrics s lt = metrics_at sums metrics s s 0 (omega arith) (omega arith)

pub high_metric : (sums metrics : List ℕ) (i : ℕ) → i < 32
    → AreMetrics sums metrics (32 + i)
    (get_or sums (2 * i) 0 + get_or metrics (2 * c1 (2 * i + 1) 0 + c2 (2 * i + 1) 0) 0)
    (get_or sums (2 * i + 1) 0 + get_or metrics (2 * c1 (2 * i) 0 + c2 (2 * i) 0) 0)
high_metric sums metrics i lt =
    let h = metrics_at sums metrics (32 + i) i 1 (omega arith) (omega arith) in
    record {
      first = h.first ∙ ap (λ v. get_or sums (2 * i) 0 + get_or metrics v 0) (pair_one i lt);
      second = h.second ∙ ap (λ v. get_or sums (2 * i + 1) 0 + get_or metrics v 0) (pair_other i lt);
    }

-- the same by what the lanes hold
low_metrics : (sums metrics even odd near far : List ℕ) → AreLanes sums metrics even odd near far → (s : ℕ) → s < 32
    → AreMetrics sums metrics s (get_or even s 0 + get_or near s 0) (get_or odd s 0 + get_or far s 0)
low_metrics sums metrics even odd near far h s lt =
    let low = low_metric sums metrics s lt in
    record {
      first = low.first ∙ omega (arith, h.evens.each s lt, h.nears.each s lt);
      second = low.second ∙ omega (arith, h.odds.each s lt, h.fars.each s lt);
    }

high_metrics : (sums metrics even odd near far : List ℕ) → AreLanes sums metrics even odd near far → (s i : ℕ)
    → i < 32
    → s ≡ 32 + i
    → AreMetrics sums metrics s (get_or even i 0 + get_or far i 0) (get_or odd i 0 + get_or near i 0)
high_metrics sums metrics even odd near far h s i lt e =
    let high = high_metric sums metrics i lt in
    record {
      first = ap (λ v. first_metric sums metrics v) e ∙ high.first
          ∙ omega (arith, h.evens.each i lt, h.fars.each i lt);
      second = ap (λ v. second_metric sums metrics v) e ∙ high.second
          ∙ omega (arith, h.odds.each i lt, h.nears.each i lt);
    }

-- the lesser of two path metrics, and which of them it is, where both are written otherwise
least_of : (first second one other : ℕ) → first ≡ one → second ≡ other → min one other ≡ min first second
least_of first second one other f s = ap (λ v. min v other) (sym f) ∙ ap (λ v. min first v) (sym s)

survivor_of : (first second one other : ℕ) → first ≡ one → second ≡ other
    → ◌≡◌ {A = ℕ} (cond (ltb other one) 1 0) (cond (ltb second first) 1 0)
survivor_of first second one other f s =
    ap (λ v. cond (ltb v one) 1 0) (sym s) ∙ ap (λ v. cond (ltb second v) 1 0) (sym f)

pub IsNextSums-from_lanes : (sums metrics even odd near far low high : List ℕ) → AreLanes sums metrics even odd near far
    → IsEach low (λ i. min (get_or even i 0 + get_or near i 0) (get_or odd i 0 + get_or far i 0))
    → IsEach high (λ i. min (get_or even i 0 + get_or far i 0) (get_or odd i 0 + get_or near i 0))
    → IsNextSums sums metrics (low ++ high)
IsNextSums-from_lanes sums metrics even odd near far low high h lows highs s lt =
    elim (cases_lt s 32) [
      | inl l ↦ (let w = low_metrics sums metrics even odd near far h s l in
          get_or_append_left low high 0 s (omega (arith, lows.long)) ∙ lows.each s l
          ∙ least_of (first_metric sums metrics s) (second_metric sums metrics s) _ _ w.first w.second)
      | inr g ↦ (let i = s - 32 in
          let il : i < 32 = omega arith in
          let w = high_metrics sums metrics even odd near far h s i il (omega arith) in
          get_or-append_right low high 32 s 0 lows.long g ∙ highs.each i il
          ∙ least_of (first_metric sums metrics s) (second_metric sums metrics s) _ _ w.first w.second)
    ]

pub AreSurvivors-from_lanes : (sums metrics even odd near far : List ℕ) (low high : ℕ)
    → AreLanes sums metrics even odd near far
    → ((i : ℕ) → i < 32 → low / 2 ^ i % 2 ≡ cond
    (ltb (get_or odd i 0 + get_or far i 0) (get_or even i 0 + get_or near i 0)) 1 0)
    → ((i : ℕ) → i < 32 → high / 2 ^ i % 2 ≡ cond
    (ltb (get_or odd i 0 + get_or near i 0) (get_or even i 0 + get_or far i 0)) 1 0)
    → low < 2 ^ 32 → high < 2 ^ 32
    → AreSurvivors sums metrics (low + high * 2 ^ 32 % 2 ^ 64)
AreSurvivors-from_lanes sums metrics even odd near far low high h lows highs ll hl s lt =
    let whole : low + high * 2 ^ 32 % 2 ^ 64 ≡ high * 2 ^ 32 + low = omega arith in
    ap (λ v. v / 2 ^ s % 2) whole ∙
    elim (cases_lt s 32) as (λ _. (high * 2 ^ 32 + low) / 2 ^ s % 2 ≡ cond
    (ltb (second_metric sums metrics s) (first_metric sums metrics s)) 1 0) [
      | inl l ↦ (let w = low_metrics sums metrics even odd near far h s l in
          bit_at_cat_low high 32 low s l ∙ lows s l
          ∙ survivor_of (first_metric sums metrics s) (second_metric sums metrics s) _ _ w.first w.second)
      | inr g ↦ (let i = s - 32 in
          let il : i < 32 = omega arith in
          let w = high_metrics sums metrics even odd near far h s i il (omega arith) in
          bit_at_cat_high high 32 low s ll g ∙ highs i il
          ∙ survivor_of (first_metric sums metrics s) (second_metric sums metrics s) _ _ w.first w.second)
    ]
