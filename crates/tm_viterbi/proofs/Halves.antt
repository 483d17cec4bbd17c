-- Lanes by sixteens.
use Rattle.std.proofs.Common.{◌≡◌, ℕ, ◌+◌, ◌-◌, ◌*◌, ◌/◌, ◌%◌, ◌^◌, ◌<◌, ◌++◌, ◌∙◌, min, cond, ltb, sym, subst, ap, refl, true, arith, length, length-append, get_or, List, [], ◌∷◌, map, w16, inl, inr}
use Rattle.std.proofs.lemmas.Bool.{cases_lt}
use Rattle.std.proofs.lemmas.List.{length-map, get_or_append_left, get_or-append_right}
use Rattle.std.proofs.lemmas.Nat.Bits.{bit_at_cat_low, bit_at_cat_high}
use Rattle.std.proofs.lemmas.Simd.{swz_l, SwzOk, SwzOk-from_below, Each1-from_get_or, length-swz_l, get_or-swz_l_below}
use Rattle.tm_conv.specs.Path.{c1, c2}
use Rattle.tm_viterbi.specs.AddCompareSelect.{IsEach, IsHalf, first_metric, second_metric}
use Rattle.tm_viterbi.proofs.Vectors.{follows, follows_at, get_or-from_table}
use Rattle.tm_viterbi.proofs.Butterfly.{AreMetrics, low_metric, high_metric}

-- lanes taken from xs by a table of places
pub IsHalf-from_table : (xs places : List ℕ) (f : ℕ → ℕ) → length places ≡ 16 → follows f 0 places ≡ true
    → IsHalf (map (λ k. get_or xs k 0) places) (λ i. get_or xs (f i) 0)
IsHalf-from_table xs places f long e = record {
  long = length-map places (λ k. get_or xs k 0) ∙ long;
  each = λ i lt. get_or-from_table xs places f e i (omega arith);
}

-- of two equal lists one after the other the first is meant
of_first : (xs lanes : List ℕ) (f : ℕ → ℕ) → IsHalf lanes (λ i. get_or (xs ++ xs) (f i) 0)
    → ((i : ℕ) → i < 16 → f i < length xs) → IsHalf lanes (λ i. get_or xs (f i) 0)
of_first xs lanes f h small =
    record { long = h.long; each = λ i lt. h.each i lt ∙ get_or_append_left xs xs 0 (f i) (small i lt) }

abbrev pub near_at : ℕ → ℕ
near_at i = 2 * c1 (2 * i) 0 + c2 (2 * i) 0

abbrev pub far_at : ℕ → ℕ
far_at i = 2 * c1 (2 * i + 1) 0 + c2 (2 * i + 1) 0

abbrev near_firsts : List ℕ
near_firsts = 0 ∷ 1 ∷ 0 ∷ 1 ∷ 3 ∷ 2 ∷ 3 ∷ 2 ∷ 3 ∷ 2 ∷ 3 ∷ 2 ∷ 0 ∷ 1 ∷ 0 ∷ 1 ∷ []

abbrev far_firsts : List ℕ
far_firsts = 3 ∷ 2 ∷ 3 ∷ 2 ∷ 0 ∷ 1 ∷ 0 ∷ 1 ∷ 0 ∷ 1 ∷ 0 ∷ 1 ∷ 3 ∷ 2 ∷ 3 ∷ 2 ∷ []

abbrev near_seconds : List ℕ
near_seconds = 2 ∷ 3 ∷ 2 ∷ 3 ∷ 1 ∷ 0 ∷ 1 ∷ 0 ∷ 1 ∷ 0 ∷ 1 ∷ 0 ∷ 2 ∷ 3 ∷ 2 ∷ 3 ∷ []

abbrev far_seconds : List ℕ
far_seconds = 1 ∷ 0 ∷ 1 ∷ 0 ∷ 2 ∷ 3 ∷ 2 ∷ 3 ∷ 2 ∷ 3 ∷ 2 ∷ 3 ∷ 1 ∷ 0 ∷ 1 ∷ 0 ∷ []

pub near_first_lanes : (xs : List ℕ) → length xs ≡ 4
    → IsHalf (map (λ k. get_or (xs ++ xs) k 0) near_firsts) (λ i. get_or xs (near_at i) 0)
unfolding follows
near_first_lanes xs long =
    of_first xs _ near_at (IsHalf-from_table (xs ++ xs) near_firsts near_at refl refl) (λ i lt. omega arith)

pub far_first_lanes : (xs : List ℕ) → length xs ≡ 4
    → IsHalf (map (λ k. get_or (xs ++ xs) k 0) far_firsts) (λ i. get_or xs (far_at i) 0)
unfolding follows
far_first_lanes xs long =
    of_first xs _ far_at (IsHalf-from_table (xs ++ xs) far_firsts far_at refl refl) (λ i lt. omega arith)

pub near_second_lanes : (xs : List ℕ) → length xs ≡ 4
    → IsHalf (map (λ k. get_or (xs ++ xs) k 0) near_seconds) (λ i. get_or xs (near_at (16 + i)) 0)
unfolding follows
near_second_lanes xs long =
    of_first xs _ (λ i. near_at (16 + i)) (IsHalf-from_table (xs ++ xs) near_seconds (λ i. near_at (16 + i)) refl refl)
    (λ i lt. omega arith)

pub far_second_lanes : (xs : List ℕ) → length xs ≡ 4
    → IsHalf (map (λ k. get_or (xs ++ xs) k 0) far_seconds) (λ i. get_or xs (far_at (16 + i)) 0)
unfolding follows
far_second_lanes xs long =
    of_first xs _ (λ i. far_at (16 + i)) (IsHalf-from_table (xs ++ xs) far_seconds (λ i. far_at (16 + i)) refl refl)
    (λ i lt. omega arith)

-- ---- lanes sorted in each eight

abbrev pub sorted_place : ℕ → ℕ
sorted_place i = 2 * (i % 4) + i % 8 / 4

abbrev sorted_list : List ℕ
sorted_list =
    0 ∷ 2 ∷ 4 ∷ 6 ∷ 1 ∷ 3 ∷ 5 ∷ 7 ∷ 0 ∷ 2 ∷ 4 ∷ 6 ∷ 1 ∷ 3 ∷ 5 ∷ 7
    ∷ 0 ∷ 2 ∷ 4 ∷ 6 ∷ 1 ∷ 3 ∷ 5 ∷ 7 ∷ 0 ∷ 2 ∷ 4 ∷ 6 ∷ 1 ∷ 3 ∷ 5 ∷ 7 ∷ []

pub sorted_is : (i : ℕ) → i < 32 → get_or sorted_list i 0 ≡ sorted_place i
unfolding follows
sorted_is i lt =
    let same : 0 + i ≡ i = omega arith in
    follows_at sorted_place 0 sorted_list i refl lt ∙ ap sorted_place same

pub sorted_with : (none : ℕ) → none ≡ 0 → IsEach (map (λ p. p + none) sorted_list) sorted_place
sorted_with none e =
    subst (λ (z : ℕ). IsEach (map (λ p. p + z) sorted_list) sorted_place) (sym e)
    (record { long = refl; each = sorted_is })

pub sorted_fits : (half places : List ℕ) → IsEach places sorted_place → SwzOk w16 8 32 0 places
sorted_fits half places h =
    SwzOk-from_below w16 8 4 32 0 places refl (omega (arith, h.long))
    (Each1-from_get_or (λ j. j < 8) places 0 (λ i lt. omega (arith, h.long, h.each i (omega (arith, h.long)))))

sorted_at : (half places : List ℕ) → IsEach places sorted_place → (m : ℕ) → m < 32
    → get_or (swz_l w16 8 half 0 places) m 0 ≡ get_or half (8 * (m / 8) + sorted_place m) 0
sorted_at half places h m lt =
    let is = h.each m lt in
    let there : 8 * ((0 + m) / 8) + get_or places m 0 ≡ 8 * (m / 8) + sorted_place m = omega (arith, is) in
    get_or-swz_l_below w16 8 half 0 places m (omega (arith, h.long)) (omega (arith, is))
    ∙ ap (λ k. get_or half k 0) there

abbrev even_places : List ℕ
even_places = 0 ∷ 1 ∷ 2 ∷ 3 ∷ 8 ∷ 9 ∷ 10 ∷ 11 ∷ 16 ∷ 17 ∷ 18 ∷ 19 ∷ 24 ∷ 25 ∷ 26 ∷ 27 ∷ []

abbrev odd_places : List ℕ
odd_places = 4 ∷ 5 ∷ 6 ∷ 7 ∷ 12 ∷ 13 ∷ 14 ∷ 15 ∷ 20 ∷ 21 ∷ 22 ∷ 23 ∷ 28 ∷ 29 ∷ 30 ∷ 31 ∷ []

parted_by : (half places table : List ℕ) (f g : ℕ → ℕ) → IsEach places sorted_place
    → IsHalf (map (λ k. get_or (swz_l w16 8 half 0 places ++ swz_l w16 8 half 0 places) k 0) table)
    (λ i. get_or (swz_l w16 8 half 0 places ++ swz_l w16 8 half 0 places) (f i) 0)
    → ((i : ℕ) → i < 16 → f i < 32) → ((i : ℕ) → i < 16 → 8 * (f i / 8) + sorted_place (f i) ≡ g i)
    → IsHalf (map (λ k. get_or (swz_l w16 8 half 0 places ++ swz_l w16 8 half 0 places) k 0) table)
    (λ i. get_or half (g i) 0)
parted_by half places table f g h lanes small is =
    let long : length (swz_l w16 8 half 0 places) ≡ 32 = length-swz_l w16 8 half 0 places ∙ h.long in
    let first = of_first (swz_l w16 8 half 0 places) _ f lanes (λ i lt. omega (arith, long, small i lt)) in
    record {
      long = first.long;
      each = λ i lt. first.each i lt ∙ sorted_at half places h (f i) (small i lt)
          ∙ ap (λ k. get_or half k 0) (is i lt);
    }

pub even_parts : (half places : List ℕ) → IsEach places sorted_place
    → IsHalf (map (λ k. get_or (swz_l w16 8 half 0 places ++ swz_l w16 8 half 0 places) k 0) even_places)
    (λ i. get_or half (2 * i) 0)
unfolding follows
even_parts half places h =
    parted_by half places even_places (λ i. 8 * (i / 4) + i % 4) (λ i. 2 * i) h
    (IsHalf-from_table (swz_l w16 8 half 0 places ++ swz_l w16 8 half 0 places) even_places
    (λ i. 8 * (i / 4) + i % 4) refl refl) (λ i lt. omega arith) (λ i lt. omega arith)

pub odd_parts : (half places : List ℕ) → IsEach places sorted_place
    → IsHalf (map (λ k. get_or (swz_l w16 8 half 0 places ++ swz_l w16 8 half 0 places) k 0) odd_places)
    (λ i. get_or half (2 * i + 1) 0)
unfolding follows
odd_parts half places h =
    parted_by half places odd_places (λ i. 8 * (i / 4) + i % 4 + 4) (λ i. 2 * i + 1) h
    (IsHalf-from_table (swz_l w16 8 half 0 places ++ swz_l w16 8 half 0 places) odd_places
    (λ i. 8 * (i / 4) + i % 4 + 4) refl refl) (λ i lt. omega arith) (λ i lt. omega arith)

-- ---- the column of two halves

-- what a half's lanes hold: register 2 * (from + i), the one after it, and what the two pairs of symbols cost
pub record AreHalves (sums metrics even odd near far : List ℕ) (from : ℕ) : Type 0 where
  pub evens : IsHalf even (λ i. get_or sums (2 * (from + i)) 0)
  pub odds : IsHalf odd (λ i. get_or sums (2 * (from + i) + 1) 0)
  pub nears : IsHalf near (λ i. get_or metrics (near_at (from + i)) 0)
  pub fars : IsHalf far (λ i. get_or metrics (far_at (from + i)) 0)

-- the halves of the list
pub first_lanes : (low high lanes : List ℕ) (p q : ℕ → ℕ) → length low ≡ 32 → ((i : ℕ) → i < 16 → p i < 32)
    → ((i : ℕ) → i < 16 → p i ≡ q i)
    → IsHalf lanes (λ i. get_or low (p i) 0) → IsHalf lanes (λ i. get_or (low ++ high) (q i) 0)
first_lanes low high lanes p q long small is h = record {
  long = h.long;
  each = λ i lt. h.each i lt ∙ sym (get_or_append_left low high 0 (p i) (omega (arith, small i lt)))
      ∙ ap (λ v. get_or (low ++ high) v 0) (is i lt);
}

pub second_lanes : (low high lanes : List ℕ) (p q : ℕ → ℕ) → length low ≡ 32 → ((i : ℕ) → i < 16 → q i ≡ 32 + p i)
    → IsHalf lanes (λ i. get_or high (p i) 0) → IsHalf lanes (λ i. get_or (low ++ high) (q i) 0)
second_lanes low high lanes p q long is h = record {
  long = h.long;
  each = λ i lt.
      let there : p i ≡ q i - 32 = omega (arith, is i lt) in
      h.each i lt ∙ ap (λ v. get_or high v 0) there
      ∙ sym (get_or-append_right low high 32 (q i) 0 long (omega (arith, is i lt)));
}

pub first_halves : (low high metrics even odd near far : List ℕ) → length low ≡ 32
    → IsHalf even (λ i. get_or low (2 * i) 0) → IsHalf odd (λ i. get_or low (2 * i + 1) 0)
    → IsHalf near (λ i. get_or metrics (near_at i) 0) → IsHalf far (λ i. get_or metrics (far_at i) 0)
    → AreHalves (low ++ high) metrics even odd near far 0
first_halves low high metrics even odd near far long a b n f =
    let zeros : (i : ℕ) → i ≡ 0 + i = λ i. omega arith in
    record {
      evens = first_lanes low high even (λ i. 2 * i) (λ i. 2 * (0 + i)) long (λ i lt. omega arith)
          (λ i lt. omega arith) a;
      odds = first_lanes low high odd (λ i. 2 * i + 1) (λ i. 2 * (0 + i) + 1) long (λ i lt. omega arith)
          (λ i lt. omega arith) b;
      nears = record { long = n.long; each = λ i lt. n.each i lt ∙ ap (λ v. get_or metrics (near_at v) 0) (zeros i) };
      fars = record { long = f.long; each = λ i lt. f.each i lt ∙ ap (λ v. get_or metrics (far_at v) 0) (zeros i) };
    }

pub second_halves : (low high metrics even odd near far : List ℕ) → length low ≡ 32
    → IsHalf even (λ i. get_or high (2 * i) 0) → IsHalf odd (λ i. get_or high (2 * i + 1) 0)
    → IsHalf near (λ i. get_or metrics (near_at (16 + i)) 0) → IsHalf far (λ i. get_or metrics (far_at (16 + i)) 0)
    → AreHalves (low ++ high) metrics even odd near far 16
second_halves low high metrics even odd near far long a b n f =
    record {
      evens = second_lanes low high even (λ i. 2 * i) (λ i. 2 * (16 + i)) long (λ i lt. omega arith) a;
      odds = second_lanes low high odd (λ i. 2 * i + 1) (λ i. 2 * (16 + i) + 1) long (λ i lt. omega arith) b;
      nears = n;
      fars = f;
    }

-- the path metrics fit, lane by lane
half_fits : (sums metrics lanes more : List ℕ) (p k : ℕ → ℕ)
    → ((s j : ℕ) → s < 64 → j < 4 → get_or sums s 0 + get_or metrics j 0 < 2 ^ 16)
    → IsHalf lanes (λ i. get_or sums (p i) 0) → IsHalf more (λ i. get_or metrics (k i) 0)
    → ((i : ℕ) → i < 16 → p i < 64)
    → ((i : ℕ) → k i < 4)
    → (i : ℕ) → i < 16 → get_or lanes i 0 + get_or more i 0 < 2 ^ 16
half_fits sums metrics lanes more p k all a b pl kl i lt =
    omega (arith, a.each i lt, b.each i lt, all (p i) (k i) (pl i lt) (kl i))

pub record Fit (even odd near far : List ℕ) : Type 0 where
  pub even_near : (i : ℕ) → i < 16 → get_or even i 0 + get_or near i 0 < 2 ^ 16
  pub even_far : (i : ℕ) → i < 16 → get_or even i 0 + get_or far i 0 < 2 ^ 16
  pub odd_near : (i : ℕ) → i < 16 → get_or odd i 0 + get_or near i 0 < 2 ^ 16
  pub odd_far : (i : ℕ) → i < 16 → get_or odd i 0 + get_or far i 0 < 2 ^ 16

pub fit : (sums metrics even odd near far : List ℕ) (from : ℕ)
    → ((s j : ℕ) → s < 64 → j < 4 → get_or sums s 0 + get_or metrics j 0 < 2 ^ 16) → from < 17
    → AreHalves sums metrics even odd near far from → Fit even odd near far
fit sums metrics even odd near far from all small h =
    let evens : (i : ℕ) → i < 16 → 2 * (from + i) < 64 = λ i lt. omega arith in
    let odds : (i : ℕ) → i < 16 → 2 * (from + i) + 1 < 64 = λ i lt. omega arith in
    let nears : (i : ℕ) → near_at (from + i) < 4 = λ i. omega arith in
    let fars : (i : ℕ) → far_at (from + i) < 4 = λ i. omega arith in
    record {
      even_near = half_fits sums metrics even near (λ i. 2 * (from + i))
          (λ i. near_at (from + i)) all h.evens h.nears evens nears;
      even_far = half_fits sums metrics even far (λ i. 2 * (from + i))
          (λ i. far_at (from + i)) all h.evens h.fars evens fars;
      odd_near = half_fits sums metrics odd near (λ i. 2 * (from + i) + 1)
          (λ i. near_at (from + i)) all h.odds h.nears odds nears;
      odd_far = half_fits sums metrics odd far (λ i. 2 * (from + i) + 1)
          (λ i. far_at (from + i)) all h.odds h.fars odds fars;
    }

lesser_metric : (sums metrics : List ℕ) (s one other a b x y m : ℕ) → AreMetrics sums metrics s (a + x) (b + y)
    → m ≡ min (one) (other) → one ≡ a + x → other ≡ b + y
    → m ≡ min (first_metric sums metrics s) (second_metric sums metrics s)
lesser_metric sums metrics s one other a b x y m w e f g =
    e ∙ ap (λ v. min v other) (f ∙ sym w.first) ∙ ap (λ v. min (first_metric sums metrics s) v) (g ∙ sym w.second)

less_metric : (sums metrics : List ℕ) (s one other a b x y m : ℕ) → AreMetrics sums metrics s (a + x) (b + y)
    → m ≡ cond (ltb other one) 1 0 → one ≡ a + x → other ≡ b + y
    → m ≡ cond (ltb (second_metric sums metrics s) (first_metric sums metrics s)) 1 0
less_metric sums metrics s one other a b x y m w e f g =
    e ∙ ap (λ v. cond (ltb other v) 1 0) (f ∙ sym w.first)
    ∙ ap (λ v. cond (ltb v (first_metric sums metrics s)) 1 0) (g ∙ sym w.second)

-- a path metric, lane by lane
lane_metric : (sums metrics lanes more : List ℕ) (p k : ℕ → ℕ) → IsHalf lanes (λ i. get_or sums (p i) 0)
    → IsHalf more (λ i. get_or metrics (k i) 0)
    → (i : ℕ) → i < 16 → get_or lanes i 0 + get_or more i 0 ≡ get_or sums (p i) 0 + get_or metrics (k i) 0
lane_metric sums metrics lanes more p k a b i lt = omega (arith, a.each i lt, b.each i lt)

-- what a half's lesser sums and survivor bits are
pub low_sums : (sums metrics even odd near far low : List ℕ) (from : ℕ) → AreHalves sums metrics even odd near far from
    → from < 17
    → IsHalf low (λ i. min (get_or even i 0 + get_or near i 0) (get_or odd i 0 + get_or far i 0))
    → (i : ℕ) → i < 16 → get_or low i 0
    ≡ min (first_metric sums metrics (from + i)) (second_metric sums metrics (from + i))
low_sums sums metrics even odd near far low from h small lows i lt =
    lesser_metric sums metrics (from + i) _ _ _ _ _ _ _
    (low_metric sums metrics (from + i) (omega arith)) (lows.each i lt)
    (lane_metric sums metrics even near (λ i. 2 * (from + i)) (λ i. near_at (from + i)) h.evens h.nears i lt)
    (lane_metric sums metrics odd far (λ i. 2 * (from + i) + 1) (λ i. far_at (from + i)) h.odds h.fars i lt)

pub high_sums : (sums metrics even odd near far high : List ℕ) (from : ℕ)
    → AreHalves sums metrics even odd near far from
    → from < 17
    → IsHalf high (λ i. min (get_or even i 0 + get_or far i 0) (get_or odd i 0 + get_or near i 0))
    → (i : ℕ) → i < 16 → get_or high i 0 ≡ min (first_metric sums metrics (32 + (from + i)))
    (second_metric sums metrics (32 + (from + i)))
high_sums sums metrics even odd near far high from h small highs i lt =
    lesser_metric sums metrics (32 + (from + i)) _ _ _ _ _ _ _ (high_metric sums metrics (from + i) (omega arith))
    (highs.each i lt)
    (lane_metric sums metrics even far (λ i. 2 * (from + i)) (λ i. far_at (from + i)) h.evens h.fars i lt)
    (lane_metric sums metrics odd near (λ i. 2 * (from + i) + 1) (λ i. near_at (from + i)) h.odds h.nears i lt)

pub low_bits : (sums metrics even odd near far : List ℕ) (from bits : ℕ) → AreHalves sums metrics even odd near far from
    → from < 17
    → ((i : ℕ) → i < 16 → bits / 2 ^ i % 2 ≡ cond
    (ltb (get_or odd i 0 + get_or far i 0) (get_or even i 0 + get_or near i 0)) 1 0)
    → (i : ℕ) → i < 16 → bits / 2 ^ i % 2 ≡ cond
    (ltb (second_metric sums metrics (from + i)) (first_metric sums metrics (from + i))) 1 0
low_bits sums metrics even odd near far from bits h small lows i lt =
    less_metric sums metrics (from + i) _ _ _ _ _ _ _ (low_metric sums metrics (from + i) (omega arith)) (lows i lt)
    (lane_metric sums metrics even near (λ i. 2 * (from + i)) (λ i. near_at (from + i)) h.evens h.nears i lt)
    (lane_metric sums metrics odd far (λ i. 2 * (from + i) + 1) (λ i. far_at (from + i)) h.odds h.fars i lt)

pub high_bits : (sums metrics even odd near far : List ℕ) (from bits : ℕ)
    → AreHalves sums metrics even odd near far from
    → from < 17
    → ((i : ℕ) → i < 16 → bits / 2 ^ i % 2 ≡ cond
    (ltb (get_or odd i 0 + get_or near i 0) (get_or even i 0 + get_or far i 0)) 1 0)
    → (i : ℕ) → i < 16 → bits / 2 ^ i % 2 ≡ cond
    (ltb (second_metric sums metrics (32 + (from + i))) (first_metric sums metrics (32 + (from + i)))) 1 0
high_bits sums metrics even odd near far from bits h small highs i lt =
    less_metric sums metrics (32 + (from + i)) _ _ _ _ _ _ _
    (high_metric sums metrics (from + i) (omega arith)) (highs i lt)
    (lane_metric sums metrics even far (λ i. 2 * (from + i)) (λ i. far_at (from + i)) h.evens h.fars i lt)
    (lane_metric sums metrics odd near (λ i. 2 * (from + i) + 1) (λ i. near_at (from + i)) h.odds h.nears i lt)

-- two halves, and two of those
joined_at : (a b : List ℕ) (f : ℕ → ℕ) → length a ≡ 16 → ((i : ℕ) → i < 16 → get_or a i 0 ≡ f i)
    → ((i : ℕ) → i < 16 → get_or b i 0 ≡ f (16 + i)) → (i : ℕ) → i < 32 → get_or (a ++ b) i 0 ≡ f i
joined_at a b f long firsts seconds i lt =
    elim (cases_lt i 16) as (λ _. get_or (a ++ b) i 0 ≡ f i) [
      | inl l ↦ get_or_append_left a b 0 i (omega arith) ∙ firsts i l
      | inr g ↦ (let same : 16 + (i - 16) ≡ i = omega arith in
          get_or-append_right a b 16 i 0 long g ∙ seconds (i - 16) (omega arith) ∙ ap f same)
    ]

pub four_sums : (a b c d : List ℕ) (f : ℕ → ℕ) → length a ≡ 16 → length b ≡ 16 → length c ≡ 16
    → ((i : ℕ) → i < 16 → get_or a i 0 ≡ f (0 + i)) → ((i : ℕ) → i < 16 → get_or b i 0 ≡ f (16 + i))
    → ((i : ℕ) → i < 16 → get_or c i 0 ≡ f (32 + (0 + i))) → ((i : ℕ) → i < 16 → get_or d i 0 ≡ f (32 + (16 + i)))
    → (s : ℕ) → s < 64 → get_or ((a ++ b) ++ (c ++ d)) s 0 ≡ f s
four_sums a b c d f la lb lc ha hb hc hd s lt =
    let zeros : (i : ℕ) → 0 + i ≡ i = λ i. omega arith in
    let long : length (a ++ b) ≡ 32 = omega (arith, length-append a b) in
    elim (cases_lt s 32) as (λ _. get_or ((a ++ b) ++ (c ++ d)) s 0 ≡ f s) [
      | inl l ↦ get_or_append_left (a ++ b) (c ++ d) 0 s (omega arith)
          ∙ joined_at a b f la (λ i below. ha i below ∙ ap f (zeros i)) hb s l
      | inr g ↦ (let same : 32 + (s - 32) ≡ s = omega arith in
          get_or-append_right (a ++ b) (c ++ d) 32 s 0 long g
          ∙ joined_at c d (λ i. f (32 + i)) lc (λ i below. hc i below ∙ ap (λ v. f (32 + v)) (zeros i)) hd (s - 32)
          (omega arith) ∙ ap f same)
    ]

pub four_bits : (a b c d : ℕ) (f : ℕ → ℕ) → a < 65536 → b < 65536 → c < 65536 → d < 65536
    → ((i : ℕ) → i < 16 → a / 2 ^ i % 2 ≡ f (0 + i)) → ((i : ℕ) → i < 16 → b / 2 ^ i % 2 ≡ f (16 + i))
    → ((i : ℕ) → i < 16 → c / 2 ^ i % 2 ≡ f (32 + (0 + i))) → ((i : ℕ) → i < 16 → d / 2 ^ i % 2 ≡ f (32 + (16 + i)))
    → (s : ℕ) → s < 64 → (((d * 2 ^ 16 + c) * 2 ^ 32) + (b * 2 ^ 16 + a)) / 2 ^ s % 2 ≡ f s
four_bits a b c d f la lb lc ld ha hb hc hd s lt =
    let zeros : (i : ℕ) → 0 + i ≡ i = λ i. omega arith in
    let low : (i : ℕ) → i < 32 → (b * 2 ^ 16 + a) / 2 ^ i % 2 ≡ f i = λ i below.
    elim (cases_lt i 16) as (λ _. (b * 2 ^ 16 + a) / 2 ^ i % 2 ≡ f i) [
      | inl l ↦ bit_at_cat_low b 16 a i l ∙ ha i l ∙ ap f (zeros i)
      | inr g ↦ (let same : 16 + (i - 16) ≡ i = omega arith in bit_at_cat_high b 16 a i (omega arith) g
          ∙ hb (i - 16) (omega arith) ∙ ap f same)
    ] in
    let high : (i : ℕ) → i < 32 → (d * 2 ^ 16 + c) / 2 ^ i % 2 ≡ f (32 + i) = λ i below.
    elim (cases_lt i 16) as (λ _. (d * 2 ^ 16 + c) / 2 ^ i % 2 ≡ f (32 + i)) [
      | inl l ↦ bit_at_cat_low d 16 c i l ∙ hc i l ∙ ap (λ v. f (32 + v)) (zeros i)
      | inr g ↦ (let same : 16 + (i - 16) ≡ i = omega arith in bit_at_cat_high d 16 c i (omega arith) g
          ∙ hd (i - 16) (omega arith) ∙ ap (λ v. f (32 + v)) same)
    ] in
    elim (cases_lt s 32) as (λ _. (((d * 2 ^ 16 + c) * 2 ^ 32) + (b * 2 ^ 16 + a)) / 2 ^ s % 2 ≡ f s) [
      | inl l ↦ bit_at_cat_low (d * 2 ^ 16 + c) 32 (b * 2 ^ 16 + a) s l ∙ low s l
      | inr g ↦ (let same : 32 + (s - 32) ≡ s = omega arith in
          bit_at_cat_high (d * 2 ^ 16 + c) 32 (b * 2 ^ 16 + a) s (omega arith) g ∙ high (s - 32) (omega arith)
          ∙ ap f same)
    ]
