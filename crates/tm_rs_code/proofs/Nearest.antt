-- At most one codeword lies within e of a word.
use Rattle.std.proofs.Common.{◌≡◌, ◌≤◌, ℕ, ◌+◌, List, [], ◌∷◌, length, refl, ap, sym, ◌∙◌, arith, inl, inr, eqb, cond, true, false, Bool}
use Rattle.std.proofs.lemmas.Bool.{cases_eq}
use Rattle.std.proofs.lemmas.Bool.Decides.{eqb_tells}
use Rattle.tm_rs_code.specs.Code.{AreElements, IsCodeword, distance}
use Rattle.tm_rs_code.proofs.DistanceLaw.{distance_law, same_of_distance}

triangle_at : (a b c : ℕ) → cond (eqb a c) 0 1 ≤ cond (eqb a b) 0 1 + cond (eqb b c) 0 1
triangle_at a b c =
    elim (eqb_tells a b) [
      | inl s ↦ rw (s.0, s.1) (omega arith)
      | inr s ↦ rw s.0 (omega (arith, at_most (eqb a c)))
    ]
  where
    at_most : (x : Bool) → cond x 0 1 ≤ 1
    at_most true = omega arith
    at_most false = omega arith

pub triangle : (us vs ws : List ℕ) → length us ≡ length vs → length vs ≡ length ws
    → distance us ws ≤ distance us vs + distance vs ws
triangle [] vs ws e f = omega arith
triangle (u ∷ us) [] ws e f = absurd (omega arith)
triangle (u ∷ us) (v ∷ vs) [] e f = absurd (omega arith)
triangle (u ∷ us) (v ∷ vs) (w ∷ ws) e f =
    omega (arith, triangle us vs ws (omega arith) (omega arith), triangle_at u v w)

pub distance-comm : (us vs : List ℕ) → length us ≡ length vs → distance us vs ≡ distance vs us
distance-comm [] [] e = refl
distance-comm [] (v ∷ vs) e = absurd (omega arith)
distance-comm (u ∷ us) [] e = absurd (omega arith)
distance-comm (u ∷ us) (v ∷ vs) e =
    elim (eqb_tells u v) [
      | inl s ↦ elim (eqb_tells v u) [
        | inl t ↦ rw (s.0, t.0)
            (ap (λ (n : ℕ). 0 + n) (distance-comm us vs (omega arith)))
        | inr t ↦ absurd (t.1 (sym s.1))
      ]
      | inr s ↦ elim (eqb_tells v u) [
        | inl t ↦ absurd (s.1 (sym t.1))
        | inr t ↦
            rw (s.0, t.0) (ap (λ (n : ℕ). 1 + n) (distance-comm us vs (omega arith)))
      ]
    ]

pub distance-self : (us : List ℕ) → distance us us ≡ 0
distance-self [] = refl
distance-self (u ∷ us) =
    elim (eqb_tells u u) [ inl t ↦ rw t.0 (omega (arith, distance-self us)) | inr t ↦ absurd (t.1 refl) ]

pub nearest_unique : (e n : ℕ) (w c d : List ℕ) → n ≤ 255 → length w ≡ n → length c ≡ n → length d ≡ n → AreElements c
    → AreElements d
    → IsCodeword e c → IsCodeword e d → distance c w ≤ e → distance d w ≤ e → c ≡ d
nearest_unique e n w c d small lw lc ld ec ed hc hd nc nd =
    elim (cases_eq (distance c d) 0) [
      | inl z ↦ same_of_distance c d (omega arith) z
      | inr ne ↦ absurd (omega (
        arith,
        distance_law e c d ec ed (omega arith) (omega arith) hc hd
            (λ same. ne (ap (distance c) (sym same) ∙ distance-self c)),
        triangle c w d (omega arith) (omega arith),
        distance-comm w d (omega arith),
      ))
    ]
