-- The locator of the one error pattern.
use Rattle.std.proofs.Common.{◌≡◌, ◌<◌, ◌≤◌, ◌≢◌, ℕ, suc, ◌+◌, ◌*◌, ◌-◌, List, [], ◌∷◌, length, refl, ap, sym, ◌∙◌, arith, inl, inr}
use Rattle.std.proofs.lemmas.Bool.{cases_lt}
use Rattle.std.proofs.lemmas.Bool.Decides.{eqb_tells}
use Rattle.tm_rs_code.specs.Code.{place_of, weight}
use Rattle.tm_rs_code.specs.Pattern.{Explains, times_linear, locator_of}
use Rattle.tm_rs_code.specs.Recurrence.{discrepancy, listing, Generates}
use Rattle.tm_rs_code.proofs.DistanceLaw.{terms_of, length-terms_of, AreTerms-terms_of, AreApart-terms_of, power_sum-terms_of}
use Rattle.tm_rs_code.proofs.Factor.{product_of}
use Rattle.tm_rs_code.proofs.Windows.{window, sums_from, holds_on, shortest, places_of, HaveValues}
use Rattle.tm_rs_code.proofs.Values.{window-same}
use Rattle.tm_rs_code.proofs.Recurrence.{length-listing, AreElements-listing, discrepancy-window}

-- ---- a pattern's sequence

pub HaveValues-terms_of : (w : List ℕ) → HaveValues (terms_of w)
HaveValues-terms_of [] = tt
HaveValues-terms_of (c ∷ cs) =
    elim (eqb_tells c 0) [
      | inl t ↦ rw t.0 (HaveValues-terms_of cs)
      | inr t ↦ rw t.0 (t.1, HaveValues-terms_of cs)
    ]

pub locator-terms_of : (w : List ℕ) → locator_of w ≡ 1 ∷ product_of (places_of (terms_of w))
locator-terms_of [] = refl
locator-terms_of (c ∷ cs) =
    elim (eqb_tells c 0) [
      | inl t ↦ rw t.0 (locator-terms_of cs)
      | inr t ↦ rw t.0 (ap (times_linear (place_of (length cs))) (locator-terms_of cs))
    ]

pub sequence_is : (e count n : ℕ) (s : ℕ → ℕ) (w : List ℕ) → Explains e count n s w → (k : ℕ) → k < count
    → sums_from (128 - e) (terms_of w) k ≡ s k
sequence_is e count n s w p k h = power_sum-terms_of (128 - e + k) w ∙ p.meets k h

-- a window of the pattern's sequence
pub window_is : (e count n : ℕ) (s : ℕ → ℕ) (w : List ℕ) → Explains e count n s w → (c : ℕ → ℕ) (l m : ℕ)
    → m + l < count
    → window (listing c 0 (suc l)) (sums_from (128 - e) (terms_of w)) m ≡ discrepancy c s (m + l) (suc l)
window_is e count n s w p c l m h =
    window-same (listing c 0 (suc l)) (sums_from (128 - e) (terms_of w)) s m
    (λ j lt. sequence_is e count n s w p j (omega (arith, length-listing c 0 (suc l))))
    ∙ sym (discrepancy-window c s l m)

-- ---- while the recurrence grows

-- where a recurrence that held so far fails, its length and the pattern's weight are more than the number of terms
pub bound : (e count n : ℕ) (s : ℕ → ℕ) (w : List ℕ) → Explains e count n s w → n ≤ 255 → (c : ℕ → ℕ) (l k : ℕ)
    → Generates c l s k → k < count
    → discrepancy c s k (suc l) ≢ 0 → k + 1 ≤ l + weight w
bound e count n s w p small c l k g below ne =
    elim (cases_lt k (l + weight w)) [
      | inl lt ↦ omega arith
      | inr le ↦
          let back : (k - l) + l ≡ k = omega arith in
          let len : length w ≤ 255 = omega (arith, p.size) in
          absurd (ne (
          ap (λ (y : ℕ). discrepancy c s y (suc l)) (sym back)
          ∙ sym (window_is e count n s w p c l (k - l) (omega arith))
          ∙ holds_on (listing c 0 (suc l)) (128 - e) (terms_of w) (AreTerms-terms_of w p.elements)
          (AreApart-terms_of w len)
          (λ m lt. window_is e count n s w p c l m (omega (arith, length-terms_of w))
          ∙ g.meets (m + l) (omega arith) (omega (arith, length-terms_of w)))
          (k - l)))
    ]

-- ---- at the end

-- a recurrence of all terms that is no longer than the pattern's weight is its locator
pub is_locator : (e count n : ℕ) (s : ℕ → ℕ) (w : List ℕ) → Explains e count n s w → n ≤ 255 → (c : ℕ → ℕ)
    → ((i : ℕ) → c i < 256)
    → (l : ℕ) → Generates c l s (count) → 2 * l ≤ count → l ≤ weight w → (weight w ≡ l)
    × (listing c 0 (suc l) ≡ locator_of w)
is_locator e count n s w p small c elements l g few le =
    let len : length w ≤ 255 = omega (arith, p.size) in
    let monic : listing c 0 (suc l) ≡ 1 ∷ listing c 1 l = ap (λ (y : ℕ). y ∷ listing c 1 l) g.first in
    let found = shortest (listing c 1 l) (128 - e) (terms_of w) (AreElements-listing c elements 1 l)
    (AreTerms-terms_of w p.elements) (AreApart-terms_of w len) (HaveValues-terms_of w)
    (λ m lt. ap (λ (ys : List ℕ). window ys (sums_from (128 - e) (terms_of w)) m) (sym monic)
    ∙ window_is e count n s w p c l m (omega (arith, length-terms_of w, p.few))
    ∙ g.meets (m + l) (omega arith) (omega (arith, length-terms_of w, p.few))) in
    let same : weight w ≡ l = omega (arith, found.0, length-terms_of w, length-listing c 1 l) in (
      same,
      monic ∙ ap (λ (ys : List ℕ). 1 ∷ ys) (found.1 (omega
          (arith, same, length-terms_of w, length-listing c 1 l))) ∙ sym (locator-terms_of w),
    )
