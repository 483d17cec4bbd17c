-- Words and their error patterns: a near codeword is the word and a pattern, added up.
use Rattle.std.proofs.Common.{◌≡◌, ◌<◌, ◌≤◌, ℕ, zero, suc, ◌+◌, ◌*◌, ◌-◌, List, [], ◌∷◌, length, get_or, refl, ap, sym, ◌∙◌, arith, inl, inr, eqb, cond, true, false, Bool}
use Rattle.std.specs.Prelude.{bit_xor}
use Rattle.std.specs.Int.Bits.{xor_zero_r, xor_self, xor_assoc}
use Rattle.std.proofs.lemmas.Bool.{cases_eq}
use Rattle.std.proofs.lemmas.Bool.Decides.{eqb_tells}
use Rattle.tm_gf256.specs.Poly.{value_at}
use Rattle.tm_rs_code.specs.Code.{AreElements, root, weight, distance, IsCodeword}
use Rattle.tm_rs_code.specs.Register.{sums}
use Rattle.tm_rs_code.specs.Pattern.{IsPattern, Explains}
use Rattle.tm_rs_code.specs.ErrorValues.{symbol_at}
use Rattle.tm_rs_code.proofs.DistanceLaw.{value_at-sums, length-sums, AreElements-sums, weight-sums, weight_law, same_of_distance}

-- a pattern is what explains all syndromes
pub explains : (e n : ℕ) (s : ℕ → ℕ) (w : List ℕ) → IsPattern e n s w → Explains e (2 * e) n s w
explains e n s w p = record { size = p.size; elements = p.elements; few = omega (arith, p.few); meets = p.meets }

pub explained : (e n : ℕ) (s : ℕ → ℕ) (w : List ℕ) → Explains e (2 * e) n s w → IsPattern e n s w
explained e n s w p = record { size = p.size; elements = p.elements; few = omega (arith, p.few); meets = p.meets }

-- the symbol of the power p by its index
pub symbol-index : (w : List ℕ) (j : ℕ) → j < length w → symbol_at w (length w - 1 - j) ≡ get_or w j 0
symbol-index [] j h = absurd (omega arith)
symbol-index (c ∷ cs) zero h =
    elim (eqb_tells (length cs) (suc (length cs) - 1 - 0)) [ inl t ↦ rw t.0 refl | inr t ↦ absurd (t.1 (omega arith)) ]
symbol-index (c ∷ cs) (suc j) h =
    elim (eqb_tells (length cs) (suc (length cs) - 1 - suc j)) [
      | inl t ↦ absurd (omega (arith, t.1))
      | inr t ↦ rw t.0 (ap (symbol_at cs) (omega arith) ∙ symbol-index cs j (omega arith))
    ]

-- ---- patterns and codewords

one_place : (a b : ℕ) → cond (eqb a b) 0 1 ≤ cond (eqb a 0) 0 1 + cond (eqb b 0) 0 1
one_place a b =
    elim (eqb_tells a 0) [
      | inl s ↦ elim (eqb_tells b 0) [
        | inl t ↦ elim (eqb_tells a b) [
          | inl r ↦ rw (s.0, t.0, r.0) (omega arith)
          | inr r ↦
              absurd (r.1 (s.1 ∙ sym t.1))
        ]
        | inr t ↦ rw (s.0, t.0) (omega (arith, at_most (eqb a b)))
      ]
      | inr s ↦ rw s.0 (omega (arith, at_most (eqb a b)))
    ]
  where
    at_most : (x : Bool) → cond x 0 1 ≤ 1
    at_most true = omega arith
    at_most false = omega arith

pub distance_le_weights : (v w : List ℕ) → length v ≡ length w → distance v w ≤ weight v + weight w
distance_le_weights [] w e = omega arith
distance_le_weights (x ∷ xs) [] e = absurd (omega arith)
distance_le_weights (x ∷ xs) (y ∷ ys) e = omega (arith, distance_le_weights xs ys (omega arith), one_place x y)

-- words with the same syndromes that differ in no more than 2e places are one word
pub near_words_same : (e : ℕ) (s : ℕ → ℕ) (v w : List ℕ) → length v ≤ 255 → length v ≡ length w → AreElements v
    → AreElements w
    → ((k : ℕ) → k < 2 * e → value_at v (root e k) ≡ s k) → ((k : ℕ) → k < 2 * e → value_at w (root e k) ≡ s k)
    → distance v w ≤ 2 * e → v ≡ w
near_words_same e s v w small same ev ew sv sw near =
    elim (cases_eq (distance v w) 0) [
      | inl z ↦ same_of_distance v w same z
      | inr ne ↦ absurd (omega (
        arith,
        near,
        weight-sums v w,
        weight_law e (sums v w) (AreElements-sums v w ev ew) (omega (arith, length-sums v w same))
            (λ k lt. value_at-sums v w (root e k) same ∙ ap (λ (y : ℕ). bit_xor y (value_at w (root e k))) (sv k lt)
            ∙ ap (bit_xor (s k)) (sw k lt) ∙ xor_self (s k))
            (λ z. ne (sym (weight-sums v w) ∙ z)),
      ))
    ]

pub pattern_unique : (e n : ℕ) (s : ℕ → ℕ) (v w : List ℕ) → n ≤ 255 → IsPattern e n s v → IsPattern e n s w → v ≡ w
pattern_unique e n s v w small pv pw =
    let same : length v ≡ length w = pv.size ∙ sym pw.size in
    near_words_same e s v w (omega (arith, pv.size)) same pv.elements pw.elements pv.meets pw.meets
    (omega (arith, distance_le_weights v w same, pv.few, pw.few))

-- a near codeword gives a pattern
pub pattern_of_codeword : (e n : ℕ) (s : ℕ → ℕ) (u c : List ℕ) → length u ≡ n → length c ≡ n → AreElements u
    → AreElements c
    → ((k : ℕ) → k < 2 * e → value_at u (root e k) ≡ s k) → IsCodeword e c → distance u c ≤ e
    → IsPattern e n s (sums u c)
pattern_of_codeword e n s u c lu lc eu ec su hc near =
    let same : length u ≡ length c = lu ∙ sym lc in
    record {
      size = length-sums u c same ∙ lu;
      elements = AreElements-sums u c eu ec;
      few = omega (arith, weight-sums u c);
      meets =
          λ k lt. value_at-sums u c (root e k) same ∙ ap (bit_xor (value_at u (root e k))) (hc k lt)
          ∙ xor_zero_r (value_at u (root e k)) ∙ su k lt;
    }

-- a pattern gives a codeword
pub codeword_of_pattern : (e n : ℕ) (s : ℕ → ℕ) (u w : List ℕ) → length u ≡ n
    → ((k : ℕ) → k < 2 * e → value_at u (root e k) ≡ s k)
    → IsPattern e n s w → IsCodeword e (sums u w)
codeword_of_pattern e n s u w lu su p k lt =
    value_at-sums u w (root e k) (lu ∙ sym p.size) ∙ ap (λ (y : ℕ). bit_xor y (value_at w (root e k))) (su k lt)
    ∙ ap (bit_xor (s k)) (p.meets k lt) ∙ xor_self (s k)

unchanged_is : (a b : ℕ) → eqb (bit_xor a b) a ≡ eqb b 0
unchanged_is a b =
    elim (eqb_tells b 0) [
      | inl t ↦ elim (eqb_tells (bit_xor a b) a) [
        | inl r ↦ r.0 ∙ sym t.0
        | inr r ↦ absurd (r.1 (ap (bit_xor a) t.1 ∙ xor_zero_r a))
      ]
      | inr t ↦ elim (eqb_tells (bit_xor a b) a) [
        | inl r ↦ absurd (t.1 (sym (sym (xor_assoc a a b) ∙ ap (λ (y : ℕ). bit_xor y b) (xor_self a))
            ∙ ap (bit_xor a) r.1 ∙ xor_self a))
        | inr r ↦ r.0 ∙ sym t.0
      ]
    ]

pub distance-sums : (u w : List ℕ) → length u ≡ length w → distance (sums u w) u ≡ weight w
distance-sums [] [] e = refl
distance-sums [] (y ∷ ys) e = absurd (omega arith)
distance-sums (x ∷ xs) [] e = absurd (omega arith)
distance-sums (x ∷ xs) (y ∷ ys) e =
    rw (unchanged_is x y) (ap (λ (z : ℕ). cond (eqb y 0) 0 1 + z) (distance-sums xs ys (omega arith)))
