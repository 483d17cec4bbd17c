-- The distance law: two different codewords of one length differ in more than 2e places.
use Rattle.std.proofs.Common.{◌≡◌, ◌<◌, ◌≤◌, ◌≢◌, ℕ, suc, ◌+◌, ◌*◌, ◌-◌, List, [], ◌∷◌, length, refl, ap, sym, ◌∙◌, arith, inl, inr, eqb, cond, true, false, Bool}
use Rattle.std.specs.Prelude.{bit_xor}
use Rattle.std.specs.Int.Bits.{xor_self}
use Rattle.std.proofs.lemmas.Bool.{cases_lt}
use Rattle.std.proofs.lemmas.Bool.Decides.{eqb_tells}
use Rattle.tm_gf256.specs.Field.{times, power}
use Rattle.tm_gf256.proofs.Ring.{plus-times, zero-times, one-times, power-lt, power-nonzero, power-power, power-add, power-round, power_apart, plus_apart, plus-lt}
use Rattle.tm_gf256.specs.Poly.{value_at}
use Rattle.tm_rs_code.specs.Code.{AreElements, place_of, root, IsCodeword, distance, weight}
use Rattle.tm_rs_code.specs.Register.{sums}
use Rattle.tm_gf256.proofs.ProductLaw.{middle}
use Rattle.tm_rs_code.proofs.Vanish.{Term, power_sum, AreTerms, ApartFrom, AreApart, AreZero, vanish}

-- ---- places

-- 11 * 116 is 1 + 5 * 255
place_root : (i : ℕ) → power (power 2 (11 * i)) 116 ≡ power 2 i
place_root i =
    power-power 2 (11 * i) 116 ∙ ap (power 2) (omega arith) ∙ power-add 2 (255 * (5 * i)) i
    ∙ ap (λ (y : ℕ). times y (power 2 i)) (power-round (5 * i)) ∙ one-times (power 2 i) (power-lt 2 i)

pub place_apart : (i j : ℕ) → i < 255 → j < 255 → power 2 (11 * i) ≡ power 2 (11 * j) → i ≡ j
place_apart i j h l e =
    power_apart i j h l (sym (place_root i) ∙ ap (λ (y : ℕ). power y 116) e ∙ place_root j)

-- ---- the terms of a word

abbrev pub add_term : Bool → ℕ → ℕ → List Term → List Term
add_term true c p ts = ts
add_term false c p ts = record { value = c; place = p } ∷ ts

abbrev pub terms_of : List ℕ → List Term
terms_of [] = []
terms_of (c ∷ cs) = add_term (eqb c 0) c (place_of (length cs)) (terms_of cs)

pub length-terms_of : (w : List ℕ) → length (terms_of w) ≡ weight w
length-terms_of [] = refl
length-terms_of (c ∷ cs) =
    elim (eqb_tells c 0) [
      | inl t ↦ rw t.0 (length-terms_of cs ∙ omega arith)
      | inr t ↦ rw t.0 (ap suc (length-terms_of cs) ∙ omega arith)
    ]

pub AreTerms-terms_of : (w : List ℕ) → AreElements w → AreTerms (terms_of w)
unfolding place_of
AreTerms-terms_of [] h = tt
AreTerms-terms_of (c ∷ cs) h =
    elim (eqb_tells c 0) [
      | inl t ↦ rw t.0 (AreTerms-terms_of cs h.1)
      | inr t ↦ rw t.0 (
        h.0,
        power-lt 2 (11 * length cs),
        power-nonzero 2 (11 * length cs) (omega arith)
            (omega arith),
        AreTerms-terms_of cs h.1,
      )
    ]

ApartFrom-terms_of : (l : ℕ) (w : List ℕ) → length w ≤ l → l < 255 → ApartFrom (place_of l) (terms_of w)
unfolding place_of
ApartFrom-terms_of l [] h m = tt
ApartFrom-terms_of l (c ∷ cs) h m =
    elim (eqb_tells c 0) [
      | inl t ↦ rw t.0 (ApartFrom-terms_of l cs (omega arith) m)
      | inr t ↦ rw t.0 (
        (λ e. let same : length cs ≡ l = place_apart (length cs) l (omega arith) m e in omega arith),
        ApartFrom-terms_of l cs (omega arith) m,
      )
    ]

pub AreApart-terms_of : (w : List ℕ) → length w ≤ 255 → AreApart (terms_of w)
AreApart-terms_of [] h = tt
AreApart-terms_of (c ∷ cs) h =
    elim (eqb_tells c 0) [
      | inl t ↦ rw t.0 (AreApart-terms_of cs (omega arith))
      | inr t ↦ rw t.0 (
        ApartFrom-terms_of (length cs) cs (omega arith) (omega arith),
        AreApart-terms_of cs (omega arith),
      )
    ]

-- a power of a power, in either order
pub exchanged : (l j : ℕ) → power (power 2 (11 * j)) l ≡ power (power 2 (11 * l)) j
exchanged l j = power-power 2 (11 * j) l ∙ ap (power 2) (omega arith) ∙ sym (power-power 2 (11 * l) j)

pub power_sum-terms_of : (j : ℕ) (w : List ℕ) → power_sum j (terms_of w) ≡ value_at w (power 2 (11 * j))
unfolding place_of
power_sum-terms_of j [] = refl
power_sum-terms_of j (c ∷ cs) =
    elim (eqb_tells c 0) [
      | inl t ↦ rw t.0 (power_sum-terms_of j cs
          ∙ sym (ap (λ (y : ℕ). bit_xor (times y (power (power 2 (11 * j)) (length cs)))
          (value_at cs (power 2 (11 * j)))) t.1
          ∙ ap (λ (y : ℕ). bit_xor y (value_at cs (power 2 (11 * j))))
          (zero-times (power (power 2 (11 * j)) (length cs)))))
      | inr t ↦ rw t.0 (ap (λ (y : ℕ). bit_xor (times c y) (power_sum j (terms_of cs))) (sym (exchanged (length cs) j))
          ∙ ap (bit_xor (times c (power (power 2 (11 * j)) (length cs)))) (power_sum-terms_of j cs))
    ]

-- the values of a word's terms are not 0
weight_of_zero : (w : List ℕ) → AreZero (terms_of w) → weight w ≡ 0
weight_of_zero [] z = refl
weight_of_zero (c ∷ cs) z =
    elim (eqb_tells c 0) [
      | inl t ↦ rw t.0 (let z' = rw t.0 at z in omega (arith, weight_of_zero cs z'))
      | inr t ↦ let z' = rw t.0 at z in absurd (t.1 z'.0)
    ]

-- ---- the law

pub weight_law : (e : ℕ) (w : List ℕ) → AreElements w → length w ≤ 255 → IsCodeword e w → weight w ≢ 0
    → 2 * e < weight w
weight_law e w h l code ne =
    elim (cases_lt (2 * e) (weight w)) [
      | inl lt ↦ lt
      | inr le ↦ absurd (ne (weight_of_zero w
          (vanish (weight w) (terms_of w) (length-terms_of w) (AreTerms-terms_of w h) (AreApart-terms_of w l) (128 - e)
          (λ k lt. power_sum-terms_of (128 - e + k) w ∙ code k (omega arith)))))
    ]

-- ---- two words

pub length-sums : (xs ys : List ℕ) → length xs ≡ length ys → length (sums xs ys) ≡ length xs
length-sums [] ys e = refl
length-sums (x ∷ xs) [] e = absurd (omega arith)
length-sums (x ∷ xs) (y ∷ ys) e = ap suc (length-sums xs ys (omega arith))

pub AreElements-sums : (xs ys : List ℕ) → AreElements xs → AreElements ys → AreElements (sums xs ys)
AreElements-sums [] ys h l = tt
AreElements-sums (x ∷ xs) [] h l = tt
AreElements-sums (x ∷ xs) (y ∷ ys) h l = (plus-lt x y h.0 l.0, AreElements-sums xs ys h.1 l.1)

pub value_at-sums : (xs ys : List ℕ) (x : ℕ) → length xs ≡ length ys
    → value_at (sums xs ys) x ≡ bit_xor (value_at xs x) (value_at ys x)
value_at-sums [] [] x e = refl
value_at-sums [] (d ∷ ds) x e = absurd (omega arith)
value_at-sums (c ∷ cs) [] x e = absurd (omega arith)
value_at-sums (c ∷ cs) (d ∷ ds) x e =
    let same : length cs ≡ length ds = omega arith in
    ap (λ (y : ℕ). bit_xor (times (bit_xor c d) (power x y)) (value_at (sums cs ds) x)) (length-sums cs ds same)
    ∙ ap (bit_xor (times (bit_xor c d) (power x (length cs)))) (value_at-sums cs ds x same)
    ∙ ap (λ (y : ℕ). bit_xor y (bit_xor (value_at cs x) (value_at ds x))) (plus-times c d (power x (length cs)))
    ∙ middle (times c (power x (length cs))) (times d (power x (length cs))) (value_at cs x) (value_at ds x)
    ∙ ap (λ (y : ℕ). bit_xor (bit_xor (times c (power x (length cs))) (value_at cs x))
    (bit_xor (times d (power x y)) (value_at ds x))) same

differ_is : (x y : ℕ) → eqb (bit_xor x y) 0 ≡ eqb x y
differ_is x y =
    elim (eqb_tells x y) [
      | inl t ↦ ap (λ (z : ℕ). eqb (bit_xor z y) 0) t.1 ∙ ap (λ (z : ℕ). eqb z 0) (xor_self y) ∙ sym t.0
      | inr t ↦ elim (eqb_tells (bit_xor x y) 0) [
        | inl s ↦ absurd (t.1 (plus_apart x y s.1))
        | inr s ↦ s.0 ∙ sym t.0
      ]
    ]

pub weight-sums : (xs ys : List ℕ) → weight (sums xs ys) ≡ distance xs ys
weight-sums [] ys = refl
weight-sums (x ∷ xs) [] = refl
weight-sums (x ∷ xs) (y ∷ ys) = rw (differ_is x y) (ap (λ (z : ℕ). cond (eqb x y) 0 1 + z) (weight-sums xs ys))

pub same_of_distance : (xs ys : List ℕ) → length xs ≡ length ys → distance xs ys ≡ 0 → xs ≡ ys
same_of_distance [] [] e d = refl
same_of_distance [] (y ∷ ys) e d = absurd (omega arith)
same_of_distance (x ∷ xs) [] e d = absurd (omega arith)
same_of_distance (x ∷ xs) (y ∷ ys) e d =
    elim (eqb_tells x y) [
      | inl t ↦ let d' =
          rw t.0 at d in ap (λ (z : ℕ). z ∷ xs) t.1
          ∙ ap (λ (zs : List ℕ). y ∷ zs) (same_of_distance xs ys (omega arith) (omega arith))
      | inr t ↦ let d' = rw t.0 at d in absurd (omega arith)
    ]

-- two different codewords of one length differ in more than 2e places
pub distance_law : (e : ℕ) (v w : List ℕ) → AreElements v → AreElements w → length v ≡ length w → length v ≤ 255
    → IsCodeword e v → IsCodeword e w → v ≢ w → 2 * e < distance v w
distance_law e v w hv hw len l cv cw ne =
    omega (
      arith,
      weight-sums v w,
      weight_law e (sums v w) (AreElements-sums v w hv hw) (omega (arith, length-sums v w len))
          (λ k lt. value_at-sums v w (root e k) len ∙ ap (λ (y : ℕ). bit_xor y (value_at w (root e k))) (cv k lt)
          ∙ cw k lt)
          (λ z. ne (same_of_distance v w len (sym (weight-sums v w) ∙ z))),
    )
