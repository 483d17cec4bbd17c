-- Sequences of power sums, and the recurrences that they meet.
use Rattle.std.proofs.Common.{◌≡◌, ◌<◌, ◌≤◌, ◌≢◌, ℕ, suc, ◌+◌, List, [], ◌∷◌, length, refl, ap, sym, ◌∙◌, arith, add_assoc}
use Rattle.std.specs.Prelude.{bit_xor}
use Rattle.tm_gf256.specs.Field.{times, power}
use Rattle.tm_gf256.proofs.Ring.{times-lt, times-comm, times-assoc, times-plus, plus-times, times-zero, zero-times, times-cancel, power-add}
use Rattle.tm_gf256.specs.Poly.{value_at}
use Rattle.tm_gf256.proofs.ProductLaw.{middle}
use Rattle.tm_rs_code.proofs.Vanish.{Term, power_sum, AreTerms, ApartFrom, AreApart, AreZero, vanish, power_sum-zero, swap_factors}
use Rattle.tm_rs_code.specs.Code.{AreElements}
use Rattle.tm_rs_code.proofs.Factor.{value_at-lt, AreRoots, AllDifferent, AllOther, at_most_degree, product_of}

-- the polynomial's value with s j in place of the power j + m: what a recurrence gives at m + degree
abbrev pub window : List ℕ → (ℕ → ℕ) → ℕ → ℕ
window [] s m = 0
window (c ∷ cs) s m = bit_xor (times c (s (m + length cs))) (window cs s m)

-- each value times f of its place
abbrev pub weighted : (ℕ → ℕ) → List Term → List Term
weighted f [] = []
weighted f (t ∷ ts) = record { value = times t.value (f t.place); place = t.place } ∷ weighted f ts

power_sum-sum : (f g : ℕ → ℕ) (j : ℕ) (ts : List Term)
    → power_sum j (weighted (λ x. bit_xor (f x) (g x)) ts) ≡ bit_xor (power_sum j (weighted f ts))
    (power_sum j (weighted g ts))
power_sum-sum f g j [] = refl
power_sum-sum f g j (t ∷ ts) =
    ap (λ (y : ℕ). bit_xor (times y (power t.place j)) (power_sum j (weighted (λ x. bit_xor (f x) (g x)) ts)))
    (times-plus t.value (f t.place) (g t.place))
    ∙ ap (λ (y : ℕ). bit_xor y (power_sum j (weighted (λ x. bit_xor (f x) (g x)) ts)))
    (plus-times (times t.value (f t.place)) (times t.value (g t.place)) (power t.place j))
    ∙ ap (bit_xor (bit_xor (times (times t.value (f t.place)) (power t.place j))
    (times (times t.value (g t.place)) (power t.place j)))) (power_sum-sum f g j ts)
    ∙ middle (times (times t.value (f t.place)) (power t.place j))
    (times (times t.value (g t.place)) (power t.place j)) (power_sum j (weighted f ts))
    (power_sum j (weighted g ts))

power_sum-none : (j : ℕ) (ts : List Term) → power_sum j (weighted (λ x. 0) ts) ≡ 0
power_sum-none j [] = refl
power_sum-none j (t ∷ ts) =
    ap (λ (y : ℕ). bit_xor (times y (power t.place j)) (power_sum j (weighted (λ x. 0) ts))) (times-zero t.value)
    ∙ ap (λ (y : ℕ). bit_xor y (power_sum j (weighted (λ x. 0) ts))) (zero-times (power t.place j))
    ∙ power_sum-none j ts

-- (v (c p)) q is c (v (q p))
gather : (v c p q : ℕ) → times (times v (times c p)) q ≡ times c (times v (times q p))
gather v c p q =
    ap (λ (y : ℕ). times y q) (swap_factors v c p) ∙ times-assoc c (times v p) q
    ∙ ap (times c) (times-assoc v p q ∙ ap (times v) (times-comm p q))

power_sum-power : (c l j : ℕ) (ts : List Term) → power_sum j (weighted (λ x. times c (power x l)) ts)
    ≡ times c (power_sum (j + l) ts)
power_sum-power c l j [] = sym (times-zero c)
power_sum-power c l j (t ∷ ts) =
    ap (λ (y : ℕ). bit_xor y (power_sum j (weighted (λ x. times c (power x l)) ts)))
    (gather t.value c (power t.place l) (power t.place j) ∙ ap (λ (y : ℕ). times c (times t.value y))
    (sym (power-add t.place j l)))
    ∙ ap (bit_xor (times c (times t.value (power t.place (j + l))))) (power_sum-power c l j ts)
    ∙ sym (times-plus c (times t.value (power t.place (j + l))) (power_sum (j + l) ts))

-- the sequence of the power sums from b on
abbrev pub sums_from : ℕ → List Term → ℕ → ℕ
sums_from b ts j = power_sum (b + j) ts

-- a window of power sums is the power sum of the values times the polynomial's
pub window-sums : (cs : List ℕ) (b m : ℕ) (ts : List Term) → window cs (sums_from b ts) m
    ≡ power_sum (b + m) (weighted (value_at cs) ts)
window-sums [] b m ts = sym (power_sum-none (b + m) ts)
window-sums (c ∷ cs) b m ts =
    ap (λ (y : ℕ). bit_xor (times c (power_sum y ts)) (window cs (sums_from b ts) m)) (sym (add_assoc b m (length cs)))
    ∙ ap (λ (y : ℕ). bit_xor y (window cs (sums_from b ts) m)) (sym (power_sum-power c (length cs) (b + m) ts))
    ∙ ap (bit_xor (power_sum (b + m) (weighted (λ x. times c (power x (length cs))) ts))) (window-sums cs b m ts)
    ∙ sym (power_sum-sum (λ x. times c (power x (length cs))) (value_at cs) (b + m) ts)

length-weighted : (f : ℕ → ℕ) (ts : List Term) → length (weighted f ts) ≡ length ts
length-weighted f [] = refl
length-weighted f (t ∷ ts) = ap suc (length-weighted f ts)

AreTerms-weighted : (f : ℕ → ℕ) (ts : List Term) → AreTerms ts → AreTerms (weighted f ts)
AreTerms-weighted f [] h = tt
AreTerms-weighted f (t ∷ ts) h = (times-lt t.value (f t.place), h.1, h.2, AreTerms-weighted f ts h.3)

ApartFrom-weighted : (f : ℕ → ℕ) (x : ℕ) (ts : List Term) → ApartFrom x ts → ApartFrom x (weighted f ts)
ApartFrom-weighted f x [] h = tt
ApartFrom-weighted f x (t ∷ ts) h = (h.0, ApartFrom-weighted f x ts h.1)

AreApart-weighted : (f : ℕ → ℕ) (ts : List Term) → AreApart ts → AreApart (weighted f ts)
AreApart-weighted f [] h = tt
AreApart-weighted f (t ∷ ts) h = (ApartFrom-weighted f t.place ts h.0, AreApart-weighted f ts h.1)

-- a recurrence that holds at as many places in a row as there are terms holds for each term
pub each_vanishes : (cs : List ℕ) (b : ℕ) (ts : List Term) → AreTerms ts → AreApart ts
    → ((m : ℕ) → m < length ts → window cs (sums_from b ts) m ≡ 0) → AreZero (weighted (value_at cs) ts)
each_vanishes cs b ts h a z =
    vanish (length ts) (weighted (value_at cs) ts) (length-weighted (value_at cs) ts)
    (AreTerms-weighted (value_at cs) ts h) (AreApart-weighted (value_at cs) ts a) b
    (λ m l. sym (window-sums cs b m ts) ∙ z m l)

-- and so it holds everywhere
pub holds_on : (cs : List ℕ) (b : ℕ) (ts : List Term) → AreTerms ts → AreApart ts
    → ((m : ℕ) → m < length ts → window cs (sums_from b ts) m ≡ 0) → (m : ℕ) → window cs (sums_from b ts) m ≡ 0
holds_on cs b ts h a z m =
    window-sums cs b m ts ∙ power_sum-zero (b + m) (weighted (value_at cs) ts) (each_vanishes cs b ts h a z)

-- ---- roots

abbrev pub HaveValues : List Term → Type 0
HaveValues [] = Unit {0}
HaveValues (t ∷ ts) = (t.value ≢ 0) × HaveValues ts

abbrev pub places_of : List Term → List ℕ
places_of [] = []
places_of (t ∷ ts) = t.place ∷ places_of ts

pub length-places_of : (ts : List Term) → length (places_of ts) ≡ length ts
length-places_of [] = refl
length-places_of (t ∷ ts) = ap suc (length-places_of ts)

pub AreElements-places_of : (ts : List Term) → AreTerms ts → AreElements (places_of ts)
AreElements-places_of [] h = tt
AreElements-places_of (t ∷ ts) h = (h.1, AreElements-places_of ts h.3)

pub AllOther-places_of : (x : ℕ) (ts : List Term) → ApartFrom x ts → AllOther x (places_of ts)
AllOther-places_of x [] h = tt
AllOther-places_of x (t ∷ ts) h = (h.0, AllOther-places_of x ts h.1)

pub AllDifferent-places_of : (ts : List Term) → AreApart ts → AllDifferent (places_of ts)
AllDifferent-places_of [] h = tt
AllDifferent-places_of (t ∷ ts) h = (AllOther-places_of t.place ts h.0, AllDifferent-places_of ts h.1)

pub AreRoots-places_of : (cs : List ℕ) (ts : List Term) → AreTerms ts → HaveValues ts
    → AreZero (weighted (value_at (1 ∷ cs)) ts) → AreRoots cs (places_of ts)
AreRoots-places_of cs [] h v z = tt
AreRoots-places_of cs (t ∷ ts) h v z = (
  times-cancel t.value (value_at (1 ∷ cs) t.place) h.0 (value_at-lt (1 ∷ cs) t.place) v.0 z.0,
  AreRoots-places_of cs ts h.3 v.1 z.1,
)

-- a monic recurrence has at least as many places as there are terms, and with that many it is their locator
pub shortest : (cs : List ℕ) (b : ℕ) (ts : List Term) → AreElements cs → AreTerms ts → AreApart ts → HaveValues ts
    → ((m : ℕ) → m < length ts → window (1 ∷ cs) (sums_from b ts) m ≡ 0)
    → (length ts ≤ length cs) × (length ts ≡ length cs → cs ≡ product_of (places_of ts))
shortest cs b ts el h a v z =
    let found = at_most_degree (places_of ts) cs (AreElements-places_of ts h) (AllDifferent-places_of ts a) el
    (AreRoots-places_of cs ts h v (each_vanishes (1 ∷ cs) b ts h a z)) in
    (omega (arith, found.0, length-places_of ts), λ e. found.1 (length-places_of ts ∙ e))
