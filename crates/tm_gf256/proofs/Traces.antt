-- Traces by squaring, and the octet by them: what a run over all elements computes.
use Rattle.std.proofs.Common.{◌≡◌, ◌<◌, ◌≤◌, ℕ, zero, suc, ◌+◌, ◌*◌, List, [], ◌∷◌, get_or, true, eqb, refl, ap, sym, ◌∙◌, arith}
use Rattle.std.specs.Prelude.{bit_xor}
use Rattle.tm_gf256.specs.Field.{times, power}
use Rattle.tm_gf256.proofs.Below.{all_below, same_below}
use Rattle.tm_gf256.proofs.Steps.{steps, times_x}
use Rattle.tm_gf256.proofs.Ring.{power-add, power-2, times-assoc, times-lt, one-times}
use Rattle.tm_gf256.specs.Dual.{trace, dual_bit, dual_bits, dual_octet}

-- ---- the trace

-- v and its first k squares of squares
unfoldable pub squares : ℕ → ℕ → ℕ
squares zero v = v
squares (suc k) v = bit_xor v (squares k (times v v))

-- the powers p, 2 p, 4 p and so on of v
powers : ℕ → ℕ → ℕ → ℕ
powers zero p v = power v p
powers (suc k) p v = bit_xor (power v p) (powers k (p + p) v)

squares-power : (k p v : ℕ) → squares k (power v p) ≡ powers k p v
unfolding squares powers
squares-power zero p v = refl
squares-power (suc k) p v =
    ap (λ (w : ℕ). bit_xor (power v p) (squares k w)) (sym (power-add v p p))
    ∙ ap (bit_xor (power v p)) (squares-power k (p + p) v)

square-power : (v : ℕ) → times v v ≡ power v 2
unfolding power
square-power v = sym (times-assoc 1 v v ∙ one-times (times v v) (times-lt v v))

pub trace-squares : (v : ℕ) → trace v ≡ squares 7 v
unfolding trace squares powers
trace-squares v = sym (ap (λ (w : ℕ). bit_xor v (squares 6 w)) (square-power v) ∙ ap (bit_xor v) (squares-power 6 2 v))

-- ---- the octet

-- alpha to the powers 117 i
unfoldable pub alphas : List ℕ
alphas = 1 ∷ 77 ∷ 140 ∷ 243 ∷ 42 ∷ 241 ∷ 176 ∷ 110 ∷ []

alphas_pass : all_below 8 (λ i. eqb (steps (117 * i) 1) (get_or alphas i 0)) ≡ true
unfolding alphas steps times_x
alphas_pass = refl

alpha_at : (i : ℕ) → i < 8 → power 2 (117 * i) ≡ get_or alphas i 0
alpha_at i h = power-2 (117 * i) ∙ same_below 8 (λ i. steps (117 * i) 1) (λ i. get_or alphas i 0) alphas_pass i h

unfoldable pub bits_by_squares : ℕ → ℕ → ℕ
bits_by_squares zero u = 0
bits_by_squares (suc k) u = 2 * bits_by_squares k u + squares 7 (times u (get_or alphas k 0))

bits_same : (k u : ℕ) → k ≤ 8 → dual_bits k u ≡ bits_by_squares k u
unfolding dual_bits dual_bit bits_by_squares
bits_same zero u h = refl
bits_same (suc k) u h =
    ap (λ (y : ℕ). 2 * y + trace (times u (power 2 (117 * k)))) (bits_same k u (omega arith))
    ∙ ap (λ (y : ℕ). 2 * bits_by_squares k u + trace (times u y)) (alpha_at k (omega arith))
    ∙ ap (λ (y : ℕ). 2 * bits_by_squares k u + y) (trace-squares (times u (get_or alphas k 0)))

pub octet_by_squares : (u : ℕ) → dual_octet u ≡ bits_by_squares 8 u
unfolding dual_octet
octet_by_squares u = bits_same 8 u (omega arith)
