-- The symbol of the error pattern at a place.
use Rattle.std.proofs.Common.{◌≡◌, ◌≢◌, ◌<◌, ◌+◌, ◌*◌, ℕ, zero, suc, List, [], ◌∷◌, length, arith, ap, sym, ◌∙◌, refl, inl, inr, subst}
use Rattle.std.proofs.Math.Seq.{take-length}
use Rattle.std.proofs.lemmas.Bool.Decides.{eqb_tells}
use Rattle.tm_gf256.specs.declared.Gf.{Gf}
use Rattle.tm_gf256.specs.Field.{times, power}
use Rattle.tm_gf256.specs.Poly.{entry, numbers, value_at}
use Rattle.tm_gf256.proofs.Ring.{times-assoc, times-one, times-nonzero, power-lt, power-nonzero}
use Rattle.tm_gf256.proofs.PolyLemmas.{length-numbers}
use Rattle.tm_rs_code.specs.Code.{AreElements, place_of, weight}
use Rattle.tm_rs_code.specs.Recurrence.{listing}
use Rattle.tm_rs_code.specs.ErrorValues.{Covers, IsLocated, symbol_at}
use Rattle.tm_rs_code.proofs.Forney.{place_is}
use Rattle.tm_rs_code.proofs.Division.{IsValue}
use Rattle.tm_rs_code.proofs.Covering.{symbol_is, length-locator}
use Rattle.tm_rs.proofs.Endings.{elements_of, listing-take}

pub listing-all : (ys : List Gf) → listing (entry ys) 0 (length ys) ≡ numbers ys
listing-all ys = listing-take ys (length ys) (omega arith) ∙ ap numbers (take-length ys)

pub symbol_at-lt : (w : List ℕ) (p : ℕ) → AreElements w → symbol_at w p < 256
symbol_at-lt [] p h = omega arith
symbol_at-lt (c ∷ cs) p h =
    elim (eqb_tells (length cs) p) [ inl t ↦ rw t.0 h.0 | inr t ↦ rw t.0 (symbol_at-lt cs p h.1) ]

-- where no place is named there are no symbols
pub no_symbols : (u w : List ℕ) (p : ℕ) → length w ≡ length u → Covers u w → weight u ≡ 0 → symbol_at w p ≡ 0
no_symbols [] [] p e z h = refl
no_symbols [] (w ∷ ws) p e z h = absurd (omega arith)
no_symbols (u ∷ us) [] p e z h = refl
no_symbols (u ∷ us) (w ∷ ws) p e z h =
    elim (eqb_tells u 0) [
      | inl y ↦ let h' = rw y.0 at h in elim (eqb_tells (length ws) p) [
        | inl t ↦ rw t.0 (z.0 y.1)
        | inr t ↦ rw t.0 (no_symbols us ws p (omega arith) z.1 (omega arith))
      ]
      | inr y ↦ let h' = rw y.0 at h in absurd (omega arith)
    ]

pub weight_of_locator : (e : ℕ) (s : ℕ → ℕ) (locator : List Gf) (u w : List ℕ) → IsLocated e s (numbers locator) u w
    → length locator ≡ suc (weight u)
weight_of_locator e s locator u w h = sym (length-numbers locator) ∙ ap length h.locator_is ∙ length-locator u

pub error_is : (e : ℕ) (s : ℕ → ℕ) (locator : List Gf) (u w : List ℕ) (degree : ℕ)
    → ((k : ℕ) → k < length locator → entry locator k < 256)
    → length locator ≡ degree + 1 → degree ≢ 0 → IsLocated e s (numbers locator) u w → (p : ℕ) → p < 255
    → value_at (numbers locator) (place_of p) ≡ 0 → IsValue (entry locator) s e degree (place_of p) (symbol_at w p)
error_is e s locator u w zero elements size ne h p inside z = absurd (ne refl)
error_is e s locator u w (suc l) elements size ne h p inside z =
    let same : length locator ≡ suc (suc l) = omega arith in
    let listed : numbers locator ≡ listing (entry locator) 0 (suc (suc l)) = sym (listing-all locator)
    ∙ ap (listing (entry locator) 0) same in
    symbol_is e s u w (entry locator) (elements_of locator elements) l
    (omega (arith, weight_of_locator e s locator u w h))
    (subst (λ (ls : List ℕ). IsLocated e s ls u w) listed h) p inside
    (subst (λ (ls : List ℕ). value_at ls (place_of p) ≡ 0) listed z)

pub scale_is : (p m x a b : ℕ) → a < 256 → a ≢ 0 → x ≡ power 2 (11 * p) → m ≡ power x b → times a m ≢ 0
scale_is p m x a b l ne f g =
    let xl : x < 256 = subst (λ (y : ℕ). y < 256) (sym f) (power-lt 2 (11 * p)) in
    let xn : x ≢ 0 = λ z. power-nonzero 2 (11 * p) (omega arith) (omega arith) (sym f ∙ z) in
    times-nonzero a m l (subst (λ (y : ℕ). y < 256) (sym g) (power-lt x b)) ne
    (λ z. power-nonzero x b xl xn (sym g ∙ z))

-- the quotient of the sum by the scale
pub divided_out : (v sum scale i r : ℕ) → v < 256 → sum ≡ times v scale → times scale i ≡ 1 → r ≡ times sum i → r ≡ v
divided_out v sum scale i r l e f g =
    g ∙ ap (λ (y : ℕ). times y i) e ∙ times-assoc v scale i ∙ ap (times v) f ∙ times-one v l

pub place : (p x : ℕ) → x ≡ power 2 (11 * p) → place_of p ≡ x
place p x e = place_is p ∙ sym e
