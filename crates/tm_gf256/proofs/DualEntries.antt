-- The tables hold the octet of each element and the element of each octet.
use Rattle.std.proofs.Common.{◌≡◌, ◌<◌, ◌≤◌, ◌≢◌, ℕ, zero, suc, ◌+◌, get_or, eqb, ltb, ap, sym, ◌∙◌, arith, inl, inr, Some}
use Rattle.std.specs.Prelude.{find, unwrap_or}
use Rattle.std.specs.List.{range_with_len}
use Rattle.std.proofs.lemmas.Bool.{ltb-true}
use Rattle.std.proofs.lemmas.Bool.Decides.{eqb_tells}
use Rattle.tm_gf256.proofs.Below.{same_below, at_below}
use Rattle.tm_gf256.specs.Dual.{dual_octet, dual_element}
use Rattle.tm_gf256.specs.declared.dual.TheConstants.{OCTETS, ELEMENTS}
use Rattle.tm_gf256.proofs.Traces.{bits_by_squares, octet_by_squares}
use Rattle.tm_gf256.proofs.DualRuns.{octets_pass, octets_small, elements_small, elements_undo, octets_undo}

pub octet_at : (u : ℕ) → u < 256 → get_or OCTETS u 0 ≡ dual_octet u
octet_at u h = same_below 256 (λ u. get_or OCTETS u 0) (bits_by_squares 8) octets_pass u h ∙ sym (octet_by_squares u)

pub dual_octet-lt : (u : ℕ) → u < 256 → dual_octet u < 256
dual_octet-lt u h =
    rw (← octet_at u h) (ltb-true (get_or OCTETS u 0) 256 (at_below 256
    (λ u. ltb (get_or OCTETS u 0) 256) octets_small u h))

element-lt : (z : ℕ) → z < 256 → get_or ELEMENTS z 0 < 256
element-lt z h =
    ltb-true (get_or ELEMENTS z 0) 256 (at_below 256 (λ z. ltb (get_or ELEMENTS z 0) 256) elements_small z h)

-- the element of the octet of u is u
element_of_octet : (u : ℕ) → u < 256 → get_or ELEMENTS (dual_octet u) 0 ≡ u
element_of_octet u h =
    ap (λ (z : ℕ). get_or ELEMENTS z 0) (sym (octet_at u h))
    ∙ same_below 256 (λ u. get_or ELEMENTS (get_or OCTETS u 0) 0) (λ u. u) elements_undo u h

octet_of_element : (z : ℕ) → z < 256 → dual_octet (get_or ELEMENTS z 0) ≡ z
octet_of_element z h =
    sym (octet_at (get_or ELEMENTS z 0) (element-lt z h))
    ∙ same_below 256 (λ z. get_or OCTETS (get_or ELEMENTS z 0) 0) (λ z. z) octets_undo z h

-- the search comes to the only k at which f is z
found : (f : ℕ → ℕ) (z s n k : ℕ) → s ≤ k → k < s + n → f k ≡ z
    → ((i : ℕ) → i < s + n → f i ≡ z → i ≡ k) → find (λ u. eqb (f u) z) (range_with_len s n) ≡ Some k
found f z s zero k low high at only = absurd (omega arith)
found f z s (suc n) k low high at only =
    elim (eqb_tells (f s) z) [
      | inl t ↦ rw t.0 (ap Some (only s (omega arith) t.1))
      | inr t ↦
          let apart : s ≢ k = λ e. t.1 (ap f e ∙ at) in
          rw t.0 (found f z (s + 1) n k (omega arith) (omega arith) at (λ i lt. only i (omega arith)))
    ]

pub element_at : (z : ℕ) → z < 256 → get_or ELEMENTS z 0 ≡ dual_element z
unfolding dual_element
element_at z h =
    let k = get_or ELEMENTS z 0 in
    let it : find (λ u. eqb (dual_octet u) z) (range_with_len 0 256) ≡ Some (get_or ELEMENTS z 0) =
    found dual_octet z 0 256 (get_or ELEMENTS z 0) (omega arith) (element-lt z h) (octet_of_element z h)
    (λ i lt e. sym (element_of_octet i lt) ∙ ap (λ (y : ℕ). get_or ELEMENTS y 0) e) in
    sym (ap (λ o. unwrap_or o 0) it)

pub dual_element-lt : (z : ℕ) → z < 256 → dual_element z < 256
dual_element-lt z h = rw (← element_at z h) (element-lt z h)

pub dual_element-dual_octet : (u : ℕ) → u < 256 → dual_element (dual_octet u) ≡ u
dual_element-dual_octet u h = sym (element_at (dual_octet u) (dual_octet-lt u h)) ∙ element_of_octet u h

pub dual_octet-dual_element : (z : ℕ) → z < 256 → dual_octet (dual_element z) ≡ z
dual_octet-dual_element z h = ap dual_octet (sym (element_at z h)) ∙ octet_of_element z h
