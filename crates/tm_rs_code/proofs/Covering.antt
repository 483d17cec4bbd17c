-- The terms of a word at the places of another, and the values there.
use Rattle.std.proofs.Common.{◌≡◌, ◌<◌, ◌≤◌, ◌≢◌, ℕ, suc, ◌+◌, ◌*◌, ◌-◌, List, [], ◌∷◌, length, refl, ap, sym, ◌∙◌, arith, inl, inr, eqb}
use Rattle.std.specs.Prelude.{bit_xor}
use Rattle.std.proofs.lemmas.Bool.Decides.{eqb_tells}
use Rattle.tm_gf256.specs.Field.{times, power}
use Rattle.tm_gf256.proofs.Ring.{zero-times, power-lt, power-nonzero}
use Rattle.tm_gf256.specs.Poly.{value_at}
use Rattle.tm_rs_code.specs.Code.{AreElements, place_of, weight}
use Rattle.tm_rs_code.specs.Pattern.{locator_of}
use Rattle.tm_rs_code.specs.Recurrence.{listing}
use Rattle.tm_rs_code.specs.ErrorValues.{Covers, IsLocated, symbol_at}
use Rattle.tm_rs_code.proofs.Vanish.{Term, power_sum, AreTerms, ApartFrom, AreApart}
use Rattle.tm_rs_code.proofs.DistanceLaw.{add_term, terms_of, length-terms_of, place_apart, exchanged}
use Rattle.tm_rs_code.proofs.Factor.{product_of, length-product_of}
use Rattle.tm_rs_code.proofs.Windows.{places_of, length-places_of}
use Rattle.tm_rs_code.proofs.Locator.{locator-terms_of}
use Rattle.tm_rs_code.proofs.Forney.{value_of, no_symbol, place_is}
use Rattle.tm_rs_code.proofs.Division.{IsValue, value_at_root, no_value_there}

-- the symbols of w at the places where u is not 0
abbrev pub covering : List ℕ → List ℕ → List Term
covering [] ws = []
covering (u ∷ us) [] = []
covering (u ∷ us) (w ∷ ws) = add_term (eqb u 0) w (place_of (length us)) (covering us ws)

length-covering : (us ws : List ℕ) → length ws ≡ length us → length (covering us ws) ≡ weight us
length-covering [] ws e = refl
length-covering (u ∷ us) [] e = absurd (omega arith)
length-covering (u ∷ us) (w ∷ ws) e =
    elim (eqb_tells u 0) [
      | inl t ↦ rw t.0 (length-covering us ws (omega arith) ∙ omega arith)
      | inr t ↦ rw t.0 (ap suc (length-covering us ws (omega arith)) ∙ omega arith)
    ]

AreTerms-covering : (us ws : List ℕ) → AreElements ws → AreTerms (covering us ws)
unfolding place_of
AreTerms-covering [] ws h = tt
AreTerms-covering (u ∷ us) [] h = tt
AreTerms-covering (u ∷ us) (w ∷ ws) h =
    elim (eqb_tells u 0) [
      | inl t ↦ rw t.0 (AreTerms-covering us ws h.1)
      | inr t ↦ rw t.0 (
        h.0,
        power-lt 2 (11 * length us),
        power-nonzero 2 (11 * length us) (omega arith)
            (omega arith),
        AreTerms-covering us ws h.1,
      )
    ]

ApartFrom-covering : (l : ℕ) (us ws : List ℕ) → length us ≤ l → l < 255 → ApartFrom (place_of l) (covering us ws)
unfolding place_of
ApartFrom-covering l [] ws h m = tt
ApartFrom-covering l (u ∷ us) [] h m = tt
ApartFrom-covering l (u ∷ us) (w ∷ ws) h m =
    elim (eqb_tells u 0) [
      | inl t ↦ rw t.0 (ApartFrom-covering l us ws (omega arith) m)
      | inr t ↦ rw t.0 (
        (λ e. let same : length us ≡ l = place_apart (length us) l (omega arith) m e in omega arith),
        ApartFrom-covering l us ws (omega arith) m,
      )
    ]

AreApart-covering : (us ws : List ℕ) → length us ≤ 255 → AreApart (covering us ws)
AreApart-covering [] ws h = tt
AreApart-covering (u ∷ us) [] h = tt
AreApart-covering (u ∷ us) (w ∷ ws) h =
    elim (eqb_tells u 0) [
      | inl t ↦ rw t.0 (AreApart-covering us ws (omega arith))
      | inr t ↦ rw t.0 (
        ApartFrom-covering (length us) us ws (omega arith) (omega arith),
        AreApart-covering us ws (omega arith),
      )
    ]

places_of-covering : (us ws : List ℕ) → length ws ≡ length us → places_of (covering us ws) ≡ places_of (terms_of us)
places_of-covering [] ws e = refl
places_of-covering (u ∷ us) [] e = absurd (omega arith)
places_of-covering (u ∷ us) (w ∷ ws) e =
    elim (eqb_tells u 0) [
      | inl t ↦ rw t.0 (places_of-covering us ws (omega arith))
      | inr t ↦ rw t.0 (ap (λ (xs : List ℕ). place_of (length us) ∷ xs) (places_of-covering us ws (omega arith)))
    ]

power_sum-covering : (j : ℕ) (us ws : List ℕ) → length ws ≡ length us → Covers us ws
    → power_sum j (covering us ws) ≡ value_at ws (power 2 (11 * j))
unfolding place_of
power_sum-covering j [] [] e z = refl
power_sum-covering j [] (w ∷ ws) e z = absurd (omega arith)
power_sum-covering j (u ∷ us) [] e z = absurd (omega arith)
power_sum-covering j (u ∷ us) (w ∷ ws) e z =
    let same : length ws ≡ length us = omega arith in
    elim (eqb_tells u 0) [
      | inl t ↦ rw t.0 (power_sum-covering j us ws same z.1
          ∙ sym (ap (λ (y : ℕ). bit_xor (times y (power (power 2 (11 * j)) (length ws)))
          (value_at ws (power 2 (11 * j)))) (z.0 t.1)
          ∙ ap (λ (y : ℕ). bit_xor y (value_at ws (power 2 (11 * j))))
          (zero-times (power (power 2 (11 * j)) (length ws)))))
      | inr t ↦ rw t.0 (ap (λ (y : ℕ). bit_xor (times w y) (power_sum j (covering us ws)))
          (sym (exchanged (length us) j))
          ∙ ap (bit_xor (times w (power (power 2 (11 * j)) (length us)))) (power_sum-covering j us ws same z.1)
          ∙ ap (λ (n : ℕ). bit_xor (times w (power (power 2 (11 * j)) n)) (value_at ws (power 2 (11 * j)))) (sym same))
    ]

value_of-covering : (us ws : List ℕ) (p : ℕ) → length ws ≡ length us → Covers us ws → length us ≤ 255 → p < 255
    → value_of (place_of p) (covering us ws) ≡ symbol_at ws p
value_of-covering [] [] p e z h l = refl
value_of-covering [] (w ∷ ws) p e z h l = absurd (omega arith)
value_of-covering (u ∷ us) [] p e z h l = absurd (omega arith)
value_of-covering (u ∷ us) (w ∷ ws) p e z h l =
    let same : length ws ≡ length us = omega arith in
    elim (eqb_tells (length ws) p) [
      | inl t ↦ elim (eqb_tells u 0) [
        | inl y ↦ rw (t.0, y.0) (value_of-covering us ws p same z.1 (omega arith) l
            ∙ no_symbol ws p (omega (arith, t.1)) ∙ sym (z.0 y.1))
        | inr y ↦ elim (eqb_tells (place_of (length us)) (place_of p)) [
          | inl s ↦ rw (t.0, y.0, s.0) refl
          | inr s ↦ absurd (s.1 (ap place_of (sym same ∙ t.1)))
        ]
      ]
      | inr t ↦ elim (eqb_tells u 0) [
        | inl y ↦ rw (t.0, y.0) (value_of-covering us ws p same z.1 (omega arith) l)
        | inr y ↦ elim (eqb_tells (place_of (length us)) (place_of p)) [
          | inl s ↦ absurd (t.1 (same ∙ place_apart (length us) p (omega arith) l
              (sym (place_is (length us)) ∙ s.1 ∙ place_is p)))
          | inr s ↦ rw (t.0, y.0, s.0) (value_of-covering us ws p same z.1 (omega arith) l)
        ]
      ]
    ]

-- ---- the symbols

locator_is_product : (e : ℕ) (s : ℕ → ℕ) (locator u w : List ℕ) → IsLocated e s locator u w
    → locator ≡ 1 ∷ product_of (places_of (covering u w))
locator_is_product e s locator u w h =
    h.locator_is ∙ locator-terms_of u ∙ ap (λ (xs : List ℕ). 1 ∷ product_of xs) (sym (places_of-covering u w h.size))

-- a place that is no root has no symbol
pub no_symbol_there : (e : ℕ) (s : ℕ → ℕ) (locator u w : List ℕ) → IsLocated e s locator u w → (p : ℕ) → p < 255
    → value_at locator (place_of p) ≢ 0 → symbol_at w p ≡ 0
no_symbol_there e s locator u w h p l ne =
    sym (value_of-covering u w p h.size h.covered h.short l)
    ∙ no_value_there locator (covering u w) (place_of p) (locator_is_product e s locator u w h) ne

-- the symbol at a root
pub symbol_is : (e : ℕ) (s : ℕ → ℕ) (u w : List ℕ) (c : ℕ → ℕ) → ((i : ℕ) → c i < 256) → (l : ℕ) → weight u ≡ suc l
    → IsLocated e s (listing c 0 (suc (suc l))) u w → (p : ℕ) → p < 255
    → value_at (listing c 0 (suc (suc l))) (place_of p) ≡ 0 → IsValue c s e (suc l) (place_of p) (symbol_at w p)
symbol_is e s u w c elements l many h p inside root_is =
    let small : place_of p < 256 = rw (place_is p) (power-lt 2 (11 * p)) in
    rw (sym (value_of-covering u w p h.size h.covered h.short inside))
    (value_at_root e s (covering u w) (AreTerms-covering u w h.elements) (AreApart-covering u w h.short) c elements l
    (length-covering u w h.size ∙ many) (locator_is_product e s (listing c 0 (suc (suc l))) u w h)
    (λ k lt. power_sum-covering (128 - e + k) u w h.size h.covered ∙ h.meets k (omega (arith, h.few, many)))
    (place_of p) small root_is)

pub covers_self : (ws : List ℕ) → Covers ws ws
covers_self [] = tt
covers_self (w ∷ ws) = ((λ z. z), covers_self ws)

pub length-locator : (u : List ℕ) → length (locator_of u) ≡ suc (weight u)
length-locator u = length_is (locator-terms_of u)
  where
    length_is : locator_of u ≡ 1 ∷ product_of (places_of (terms_of u)) → length (locator_of u) ≡ suc (weight u)
    length_is e =
        ap length e ∙ ap suc (length-product_of (places_of (terms_of u)) ∙ length-places_of (terms_of u)
        ∙ length-terms_of u)
