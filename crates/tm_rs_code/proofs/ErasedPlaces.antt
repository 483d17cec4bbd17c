-- Places, symbols and roots, and the words whose symbols are 0 at the same places.
use Rattle.std.proofs.Common.{◌≡◌, ◌<◌, ◌≤◌, ◌≢◌, ℕ, suc, ◌+◌, ◌*◌, ◌-◌, List, [], ◌∷◌, length, refl, ap, sym, ◌∙◌, arith, inl, inr, eqb, cond, true, false, Bool}
use Rattle.std.specs.Prelude.{bit_xor}
use Rattle.std.proofs.lemmas.Bool.{cases_eq}
use Rattle.std.proofs.lemmas.Bool.Decides.{eqb_tells}
use Rattle.tm_gf256.specs.Field.{times, power}
use Rattle.tm_gf256.proofs.Ring.{zero-times, times-lt, plus-lt, power-lt}
use Rattle.tm_gf256.specs.Poly.{value_at}
use Rattle.tm_rs_code.specs.Code.{AreElements, place_of, root, weight}
use Rattle.tm_rs_code.specs.Erasures.{count_erased, marks}
use Rattle.tm_rs_code.specs.Pattern.{carry, locator_of, roots_below, times_linear}
use Rattle.tm_rs_code.specs.ErrorValues.{symbol_at}
use Rattle.tm_rs_code.proofs.Vanish.{power_sum, ApartFrom}
use Rattle.tm_rs_code.proofs.DistanceLaw.{terms_of, length-terms_of, AreTerms-terms_of, AreApart-terms_of, place_apart, exchanged, power_sum-terms_of}
use Rattle.tm_rs_code.proofs.Factor.{at_most_degree, product_of, length-product_of}
use Rattle.tm_rs_code.proofs.Windows.{window, window-sums, sums_from, weighted, places_of, length-places_of, AreElements-places_of, AllOther-places_of, AllDifferent-places_of}
use Rattle.tm_rs_code.proofs.Values.{window-same}
use Rattle.tm_gf256.proofs.ProductLaw.{middle}
use Rattle.tm_gf256.proofs.Ring.{times-plus}
use Rattle.tm_rs_code.proofs.Locator.{locator-terms_of}
use Rattle.tm_rs_code.proofs.Roots.{AreElements-roots, AllDifferent-roots, AreRoots-roots, weight_le_roots}
use Rattle.tm_rs_code.proofs.Forney.{value_of-terms_of, no_symbol, place_is}
use Rattle.tm_rs_code.proofs.Division.{AreRoots-product, no_value_there}

-- ---- roots and symbols

apart_of_place : (u : List ℕ) (p : ℕ) → length u ≤ 255 → p < 255 → symbol_at u p ≡ 0
    → ApartFrom (place_of p) (terms_of u)
apart_of_place [] p s l z = tt
apart_of_place (c ∷ cs) p s l z =
    elim (eqb_tells (length cs) p) [
      | inl t ↦ let z' = rw t.0 at z in
          elim (eqb_tells c 0) [
            | inl y ↦ rw y.0 (apart_of_place cs p (omega arith) l (no_symbol cs p (omega (arith, t.1))))
            | inr y ↦ absurd (y.1 z')
          ]
      | inr t ↦ let z' = rw t.0 at z in
          elim (eqb_tells c 0) [
            | inl y ↦ rw y.0 (apart_of_place cs p (omega arith) l z')
            | inr y ↦ rw y.0 (
              (λ e. t.1 (place_apart (length cs) p (omega arith) l
                  (sym (place_is (length cs)) ∙ e ∙ place_is p))),
              apart_of_place cs p (omega arith) l z',
            )
          ]
    ]

AreElements-carry : (x a : ℕ) (qs : List ℕ) → AreElements qs → AreElements (carry x a qs)
AreElements-carry x a [] h = (times-lt x a, tt)
AreElements-carry x a (q ∷ qs) h = (plus-lt q (times x a) h.0 (times-lt x a), AreElements-carry x q qs h.1)

pub AreElements-product : (rs : List ℕ) → AreElements (product_of rs)
AreElements-product [] = tt
AreElements-product (r ∷ rs) = AreElements-carry r 1 (product_of rs) (AreElements-product rs)

-- a locator has as many roots as the word has symbols that are not 0
pub count_of_roots : (w : List ℕ) → length w ≤ 255 → length (roots_below (locator_of w) (length w)) ≡ weight w
count_of_roots w short =
    let gs : List ℕ = product_of (places_of (terms_of w)) in
    let most = at_most_degree (roots_below (1 ∷ gs) (length w)) gs (AreElements-roots (1 ∷ gs) (length w))
    (AllDifferent-roots (1 ∷ gs) (length w) short) (AreElements-product (places_of (terms_of w)))
    (AreRoots-roots gs (length w)) in
    ap (λ (ys : List ℕ). length (roots_below ys (length w))) (locator-terms_of w)
    ∙ omega (
      arith,
      weight_le_roots gs w (AreRoots-product (places_of (terms_of w))),
      most.0,
      length-product_of (places_of (terms_of w)),
      length-places_of (terms_of w),
      length-terms_of w,
    )

-- a root of the locator is the place of a symbol that is not 0
pub root_has_symbol : (u : List ℕ) (p : ℕ) → AreElements u → length u ≤ 255 → p < 255
    → value_at (locator_of u) (place_of p) ≡ 0 → symbol_at u p ≢ 0
root_has_symbol u p el s l r z =
    let small : place_of p < 256 = rw (place_is p) (power-lt 2 (11 * p)) in
    let most = at_most_degree (place_of p ∷ places_of (terms_of u)) (product_of (places_of (terms_of u)))
    (small, AreElements-places_of (terms_of u) (AreTerms-terms_of u el)) (
      AllOther-places_of (place_of p) (terms_of u) (apart_of_place u p s l z),
      AllDifferent-places_of (terms_of u) (AreApart-terms_of u s),
    )
    (AreElements-product (places_of (terms_of u))) (
      sym (ap (λ (ys : List ℕ). value_at ys (place_of p)) (locator-terms_of u))
          ∙ r,
      AreRoots-product (places_of (terms_of u)),
    ) in
    omega (arith, most.0, length-product_of (places_of (terms_of u)))

-- the place of a symbol that is not 0 is a root
pub symbol_has_root : (u : List ℕ) (p : ℕ) → length u ≤ 255 → p < 255 → symbol_at u p ≢ 0
    → value_at (locator_of u) (place_of p) ≡ 0
symbol_has_root u p s l h =
    elim (cases_eq (value_at (locator_of u) (place_of p)) 0) [
      | inl z ↦ z
      | inr ne ↦ absurd (h (sym (value_of-terms_of u p s l)
          ∙ no_value_there (locator_of u) (terms_of u) (place_of p) (locator-terms_of u) ne))
    ]

pub symbol_at-head : (c : ℕ) (cs : List ℕ) (p : ℕ) → length cs ≡ p → symbol_at (c ∷ cs) p ≡ c
symbol_at-head c cs p e = elim (eqb_tells (length cs) p) [ inl t ↦ rw t.0 refl | inr t ↦ absurd (t.1 e) ]

pub symbol_at-tail : (c : ℕ) (cs : List ℕ) (p : ℕ) → p < length cs → symbol_at (c ∷ cs) p ≡ symbol_at cs p
symbol_at-tail c cs p l = elim (eqb_tells (length cs) p) [ inl t ↦ absurd (omega (arith, t.1)) | inr t ↦ rw t.0 refl ]

-- ---- the polynomials that are 0 just at the erased places

pub length-marks : (fs : List Bool) → length (marks fs) ≡ length fs
length-marks [] = refl
length-marks (f ∷ fs) = ap suc (length-marks fs)

pub weight-marks : (fs : List Bool) → weight (marks fs) ≡ count_erased fs
weight-marks [] = refl
weight-marks (true ∷ fs) = ap (λ (n : ℕ). 1 + n) (weight-marks fs)
weight-marks (false ∷ fs) = ap (λ (n : ℕ). 0 + n) (weight-marks fs)

pub AreElements-marks : (fs : List Bool) → AreElements (marks fs)
AreElements-marks [] = tt
AreElements-marks (true ∷ fs) = (omega arith, AreElements-marks fs)
AreElements-marks (false ∷ fs) = (omega arith, AreElements-marks fs)

abbrev pub VanishesAt : List ℕ → List Bool → Type 0
VanishesAt g [] = Unit {0}
VanishesAt g (f ∷ fs) =
    (f ≡ true → value_at g (place_of (length fs)) ≡ 0) × (f ≡ false → value_at g (place_of (length fs)) ≢ 0)
    × VanishesAt g fs

not_true : false ≡ true → ⊥
not_true e = cc

not_false : true ≡ false → ⊥
not_false e = cc

one_not_zero : (n : ℕ) → n ≡ 1 → n ≢ 0
one_not_zero n e z = omega arith

vanishes_at : (g : List ℕ) (fs : List Bool) → ((p : ℕ) → p < length fs → symbol_at (marks fs) p ≢ 0
    → value_at g (place_of p) ≡ 0)
    → ((p : ℕ) → p < length fs → value_at g (place_of p) ≡ 0 → symbol_at (marks fs) p ≢ 0) → VanishesAt g fs
vanishes_at g [] to from = tt
vanishes_at g (true ∷ fs) to from = (
  (λ e. to (length fs) (omega arith) (one_not_zero (symbol_at (1 ∷ marks fs) (length fs))
      (symbol_at-head 1 (marks fs) (length fs) (length-marks fs)))),
  (λ e. absurd (not_false e)),
  vanishes_at g fs
      (λ p l ne. to p (omega arith) (λ z. ne (sym (symbol_at-tail 1 (marks fs) p (omega (arith, length-marks fs)))
      ∙ z)))
      (λ p l r z. from p (omega arith) r (symbol_at-tail 1 (marks fs) p (omega (arith, length-marks fs)) ∙ z)),
)
vanishes_at g (false ∷ fs) to from = (
  (λ e. absurd (not_true e)),
  (λ e r. from (length fs) (omega arith) r (symbol_at-head 0 (marks fs) (length fs) (length-marks fs))),
  vanishes_at g fs
      (λ p l ne. to p (omega arith) (λ z. ne (sym (symbol_at-tail 0 (marks fs) p (omega (arith, length-marks fs)))
      ∙ z)))
      (λ p l r z. from p (omega arith) r (symbol_at-tail 0 (marks fs) p (omega (arith, length-marks fs)) ∙ z)),
)

-- the locator of the erased places
pub erasures_vanish : (fs : List Bool) → length fs ≤ 255 → VanishesAt (locator_of (marks fs)) fs
erasures_vanish fs s =
    vanishes_at (locator_of (marks fs)) fs
    (λ p l ne. symbol_has_root (marks fs) p (omega (arith, length-marks fs)) (omega arith) ne)
    (λ p l r. root_has_symbol (marks fs) p (AreElements-marks fs) (omega (arith, length-marks fs)) (omega arith) r)

-- ---- words with zeros at the same places

abbrev pub SameZeros : List ℕ → List ℕ → Type 0
SameZeros [] ys = Unit {0}
SameZeros (x ∷ xs) [] = Unit {0}
SameZeros (x ∷ xs) (y ∷ ys) = (eqb x 0 ≡ eqb y 0) × SameZeros xs ys

pub same_locator : (xs ys : List ℕ) → length xs ≡ length ys → SameZeros xs ys → locator_of xs ≡ locator_of ys
same_locator [] [] e h = refl
same_locator [] (y ∷ ys) e h = absurd (omega arith)
same_locator (x ∷ xs) [] e h = absurd (omega arith)
same_locator (x ∷ xs) (y ∷ ys) e h =
    let same : length xs ≡ length ys = omega arith in
    ap (λ (b : Bool). cond b (locator_of xs) (times_linear (place_of (length xs)) (locator_of xs))) h.0
    ∙ ap (λ (ls : List ℕ). cond (eqb y 0) ls (times_linear (place_of (length xs)) ls)) (same_locator xs ys same h.1)
    ∙ ap (λ (n : ℕ). cond (eqb y 0) (locator_of ys) (times_linear (place_of n) (locator_of ys))) same

pub same_weight : (xs ys : List ℕ) → length xs ≡ length ys → SameZeros xs ys → weight xs ≡ weight ys
same_weight [] [] e h = refl
same_weight [] (y ∷ ys) e h = absurd (omega arith)
same_weight (x ∷ xs) [] e h = absurd (omega arith)
same_weight (x ∷ xs) (y ∷ ys) e h =
    ap (λ (b : Bool). cond b 0 1 + weight xs) h.0
    ∙ ap (λ (n : ℕ). cond (eqb y 0) 0 1 + n) (same_weight xs ys (omega arith) h.1)

-- ---- each symbol times f of its place

abbrev pub scaled_word : (ℕ → ℕ) → List ℕ → List ℕ
scaled_word f [] = []
scaled_word f (c ∷ cs) = times c (f (place_of (length cs))) ∷ scaled_word f cs

pub length-scaled_word : (f : ℕ → ℕ) (w : List ℕ) → length (scaled_word f w) ≡ length w
length-scaled_word f [] = refl
length-scaled_word f (c ∷ cs) = ap suc (length-scaled_word f cs)

pub AreElements-scaled_word : (f : ℕ → ℕ) (w : List ℕ) → AreElements (scaled_word f w)
AreElements-scaled_word f [] = tt
AreElements-scaled_word f (c ∷ cs) = (times-lt c (f (place_of (length cs))), AreElements-scaled_word f cs)

power_sum-scaled_word : (f : ℕ → ℕ) (j : ℕ) (w : List ℕ) → power_sum j (weighted f (terms_of w))
    ≡ value_at (scaled_word f w) (power 2 (11 * j))
power_sum-scaled_word f j [] = refl
power_sum-scaled_word f j (c ∷ cs) =
    elim (eqb_tells c 0) [
      | inl t ↦ rw t.0 (power_sum-scaled_word f j cs
          ∙ sym (ap (λ (z : ℕ). bit_xor (times (times z (f (place_of (length cs))))
          (power (power 2 (11 * j)) (length (scaled_word f cs))))
          (value_at (scaled_word f cs) (power 2 (11 * j)))) t.1
          ∙ ap (λ (z : ℕ). bit_xor (times z (power (power 2 (11 * j)) (length (scaled_word f cs))))
          (value_at (scaled_word f cs) (power 2 (11 * j)))) (zero-times (f (place_of (length cs))))
          ∙ ap (λ (z : ℕ). bit_xor z (value_at (scaled_word f cs) (power 2 (11 * j))))
          (zero-times (power (power 2 (11 * j)) (length (scaled_word f cs))))))
      | inr t ↦ rw t.0 (ap (λ (z : ℕ). bit_xor (times (times c (f (place_of (length cs)))) (power z j))
          (power_sum j (weighted f (terms_of cs)))) (place_is (length cs))
          ∙ ap (λ (z : ℕ). bit_xor (times (times c (f (place_of (length cs)))) z)
          (power_sum j (weighted f (terms_of cs)))) (sym (exchanged (length cs) j))
          ∙ ap (bit_xor (times (times c (f (place_of (length cs)))) (power (power 2 (11 * j)) (length cs))))
          (power_sum-scaled_word f j cs)
          ∙ ap (λ (n : ℕ). bit_xor (times (times c (f (place_of (length cs)))) (power (power 2 (11 * j)) n))
          (value_at (scaled_word f cs) (power 2 (11 * j)))) (sym (length-scaled_word f cs)))
    ]

-- the syndromes of a word, combined by a polynomial, are those of the word times its values
pub window-word : (e : ℕ) (g w : List ℕ) (m : ℕ) → window g (λ k. value_at w (root e k)) m
    ≡ value_at (scaled_word (value_at g) w) (root e m)
window-word e g w m =
    window-same g (λ k. value_at w (root e k)) (sums_from (128 - e) (terms_of w)) m
    (λ j lt. sym (power_sum-terms_of (128 - e + j) w))
    ∙ window-sums g (128 - e) m (terms_of w) ∙ power_sum-scaled_word (value_at g) (128 - e + m) w

pub window-sum : (cs : List ℕ) (s t : ℕ → ℕ) (m : ℕ) → window cs (λ k. bit_xor (s k) (t k)) m
    ≡ bit_xor (window cs s m) (window cs t m)
window-sum [] s t m = refl
window-sum (c ∷ cs) s t m =
    ap (λ (y : ℕ). bit_xor y (window cs (λ k. bit_xor (s k) (t k)) m))
    (times-plus c (s (m + length cs)) (t (m + length cs)))
    ∙ ap (bit_xor (bit_xor (times c (s (m + length cs))) (times c (t (m + length cs))))) (window-sum cs s t m)
    ∙ middle (times c (s (m + length cs))) (times c (t (m + length cs))) (window cs s m) (window cs t m)
