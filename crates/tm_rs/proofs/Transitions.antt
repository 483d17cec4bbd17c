-- How the state of the recurrence goes on.
use Rattle.std.proofs.Common.{◌≡◌, ◌≢◌, ◌<◌, ◌≤◌, ◌+◌, ◌-◌, ◌*◌, ◌/◌, ℕ, suc, List, length, arith, ap, sym, ◌∙◌, refl, inl, inr, subst, ◌⊎◌, add-one}
use Rattle.tm_rs_code.specs.Code.{weight}
use Rattle.tm_rs_code.specs.Pattern.{Explains}
use Rattle.tm_gf256.specs.Field.{times}
use Rattle.tm_gf256.specs.declared.Gf.{Gf}
use Rattle.std.proofs.lemmas.Bool.{cases_lt}
use Rattle.std.proofs.lemmas.List.{get_or_past}
use Rattle.tm_gf256.proofs.Ring.{times-assoc, times-comm, times-one}
use Rattle.tm_rs_code.specs.Recurrence.{discrepancy, patched, Generates}
use Rattle.tm_rs_code.proofs.Recurrence.{step, step_first, now_failed, patched-lt}
use Rattle.tm_rs_code.proofs.Locator.{bound}
use Rattle.tm_gf256.specs.Poly.{entry}
use Rattle.tm_rs.specs.State.{Before, Fresh, IsState, Unexplained}

-- the same at k + 1 and suc k
next : (c : ℕ → ℕ) (l : ℕ) (s : ℕ → ℕ) (k : ℕ) → Generates c l s (suc k) → Generates c l s (k + 1)
next c l s k g = rw add-one g

prior_later : (b s : ℕ → ℕ) (l m d k : ℕ) → Fresh b l m k ⊎ Before b l m d k s → Fresh b l (m + 1) (k + 1)
    ⊎ Before b l (m + 1) d (k + 1) s
prior_later b s l m d k (inl f) = inl record { none = f.none; gap = omega (arith, f.gap); single = f.single }
prior_later b s l m d k (inr p) = inr record {
  length_b = p.length_b;
  failed_at = p.failed_at;
  failed = p.failed;
  gap = omega (arith, p.gap);
  positive = omega arith;
  both = p.both;
}

patched_generates : (s c b : ℕ → ℕ) (l l' m d k f q : ℕ) → Generates c l s k → Fresh b l m k ⊎ Before b l m d k s
    → discrepancy c s k (suc l) ≡ f → times q d ≡ f → l ≤ l' → k + 1 ≤ l + l' → (l ≡ 0 → l' ≡ suc k)
    → Generates (patched c q m b) l' s (suc k)
patched_generates s c b l l' m d k f q g (inl fresh) e qd grow far first =
    let none : l ≡ 0 = fresh.none in
    let l'_is : l' ≡ suc k = first none in
    let m_is : m ≡ suc k = omega (arith, fresh.gap) in
    let g0 : Generates c 0 s k = subst (λ (x : ℕ). Generates c x s k) none g in
    subst (λ (x : ℕ). Generates (patched c q x b) l' s (suc k)) (sym m_is)
    (subst (λ (x : ℕ). Generates (patched c q (suc k) b) x s (suc k)) (sym l'_is)
    (step_first c b s q k g0 fresh.single))
patched_generates s c b l l' m d k f q g (inr p) e qd grow far first =
    step c b s l p.length_b l' k p.failed_at m f d q g p.failed e qd p.gap p.positive p.both grow far

-- the term does not fit, and the length stays
pub stays : (count : ℕ) (s c b : ℕ → ℕ) (l m d k f q : ℕ) → IsState count s c b l m d k
    → discrepancy c s k (suc l) ≡ f → times q d ≡ f → k < 2 * l
    → IsState count s (patched c q m b) b l (m + 1) d (k + 1)
stays count s c b l m d k f q h z qd short = record {
  generates =
      next (patched c q m b) l s k
      (patched_generates s c b l l m d k f q h.generates h.prior z qd (omega arith) (omega arith)
      (λ none. absurd (omega arith)));
  elements = λ i. patched-lt c b q m i (h.elements i);
  elements_b = h.elements_b;
  scale = h.scale;
  few = h.few;
  known = omega (arith, h.known);
  least = h.least;
  prior = prior_later b s l m d k h.prior;
}

-- the least weight of a pattern where the term does not fit
at_least : (count : ℕ) (s c b : ℕ → ℕ) (l m d k f : ℕ) → IsState count s c b l m d k → k < count
    → discrepancy c s k (suc l) ≡ f → f ≢ 0
    → (e n : ℕ) → n ≤ 255 → (w : List ℕ) → Explains e count n s w → (k + 1) - l ≤ weight w
at_least count s c b l m d k f h below z ne e n small w p =
    omega (arith, bound e count n s w p small c l k h.generates below (λ e'. ne (sym z ∙ e')))

-- the term does not fit, and the length grows
pub grows : (count : ℕ) (s c b : ℕ → ℕ) (l m d k f q : ℕ) → IsState count s c b l m d k → k < count
    → discrepancy c s k (suc l) ≡ f → f ≢ 0 → times q d ≡ f
    → 2 * l ≤ k → 2 * ((k + 1) - l) ≤ count → IsState count s (patched c q m b) c ((k + 1) - l) 1 f (k + 1)
grows count s c b l m d k f q h below z ne qd long few = record {
  generates = next (patched c q m b) ((k + 1) - l) s k
      (patched_generates s c b l ((k + 1) - l) m d k f q h.generates h.prior z qd (omega arith) (omega arith)
      (λ none. omega arith));
  elements = λ i. patched-lt c b q m i (h.elements i);
  elements_b = h.elements;
  scale = ne;
  few = few;
  known = omega arith;
  least = at_least count s c b l m d k f h below z ne;
  prior = inr record {
    length_b = l;
    failed_at = k;
    failed = now_failed c s l k f h.generates z;
    gap = refl;
    positive = omega arith;
    both = omega (arith, h.known);
  };
}

-- the length would be too great
pub too_many : (count : ℕ) (s c b : ℕ → ℕ) (l m d k f : ℕ) → IsState count s c b l m d k → k < count
    → discrepancy c s k (suc l) ≡ f → f ≢ 0
    → count < 2 * ((k + 1) - l) → Unexplained count s
too_many count s c b l m d k f h below z ne many e n small w p =
    omega (arith, at_least count s c b l m d k f h below z ne e n small w p, p.few)

-- the quotient of the failures
pub quotient_is : (f d q i : ℕ) → f < 256 → times d i ≡ 1 → q ≡ times f i → times q d ≡ f
quotient_is f d q i h inv e =
    ap (λ (y : ℕ). times y d) e ∙ times-assoc f i d ∙ ap (times f) (times-comm i d ∙ inv) ∙ times-one f h

pub entry_past : (ys : List Gf) (i : ℕ) → length ys ≤ i → entry ys i ≡ 0
entry_past ys i h = ap (λ (g : Gf). g.0) (get_or_past ys i (record { 0 = 0 }) h)

-- the coefficients in an array, of which those below `end` were changed
pub arrayed : (count : ℕ) (s f b : ℕ → ℕ) (l m d k end : ℕ) (xs ys : List Gf) → end ≡ count / 2 + 1
    → ((i : ℕ) → i < end → entry ys i ≡ f i)
    → ((i : ℕ) → end ≤ i → entry ys i ≡ entry xs i) → ((i : ℕ) → end ≤ i → entry xs i ≡ 0)
    → IsState count s f b l m d k → IsState count s (entry ys) b l m d k
arrayed count s f b l m d k end xs ys at changed same zeros h =
    let all : (i : ℕ) → f i ≡ entry ys i = λ i. elim (cases_lt i end) [
      | inl lt ↦ sym (changed i lt)
      | inr ge ↦ h.generates.beyond i (omega (arith, h.few, at)) ∙ sym (same i ge ∙ zeros i ge)
    ] in
    subst (λ (g : ℕ → ℕ). IsState count s g b l m d k) (λ j i. all i j) h

pub zeros_after : (count : ℕ) (s c b : ℕ → ℕ) (l m d k end : ℕ) → end ≡ count / 2 + 1 → IsState count s c b l m d k
    → (i : ℕ) → end ≤ i → c i ≡ 0
zeros_after count s c b l m d k end at h i ge = h.generates.beyond i (omega (arith, h.few, at))
