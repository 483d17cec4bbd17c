-- A recurrence with as many roots below n as its length has a pattern.
use Rattle.std.proofs.Common.{◌≡◌, ◌<◌, ◌≤◌, ℕ, zero, suc, ◌+◌, ◌*◌, ◌-◌, List, [], ◌∷◌, length, refl, ap, sym, ◌∙◌, arith, inl, inr, subst, eqb, cond, true, false, Bool}
use Rattle.std.specs.Prelude.{bit_xor}
use Rattle.std.proofs.lemmas.Bool.Decides.{eqb_tells}
use Rattle.tm_gf256.specs.Field.{times, power}
use Rattle.tm_gf256.proofs.Ring.{power-lt, power-nonzero, zero-times, times-zero}
use Rattle.tm_gf256.specs.Poly.{value_at}
use Rattle.tm_rs_code.specs.Code.{AreElements, place_of, weight}
use Rattle.tm_rs_code.specs.Pattern.{Explains, roots_below, add_place}
use Rattle.tm_rs_code.specs.Recurrence.{listing, Generates}
use Rattle.tm_rs_code.proofs.Vanish.{Term, power_sum, AreTerms, AreZero, power_sum-zero}
use Rattle.tm_rs_code.proofs.DistanceLaw.{terms_of, place_apart, exchanged}
use Rattle.tm_rs_code.proofs.Factor.{AreRoots, AllOther, AllDifferent}
use Rattle.tm_rs_code.proofs.Windows.{window, sums_from, places_of, length-places_of, weighted, window-sums}
use Rattle.tm_rs_code.proofs.Values.{Solution, solution, NoZero, same_below, power_sum-lt}
use Rattle.tm_rs_code.proofs.Recurrence.{length-listing, discrepancy-window}

-- ---- the roots below n

pub AreElements-roots : (p : List ℕ) (n : ℕ) → AreElements (roots_below p n)
unfolding place_of
AreElements-roots p zero = tt
AreElements-roots p (suc n) =
    elim (eqb_tells (value_at p (power 2 (11 * n))) 0) [
      | inl t ↦ rw t.0 (power-lt 2 (11 * n), AreElements-roots p n)
      | inr t ↦ rw t.0 (AreElements-roots p n)
    ]

pub NoZero-roots : (p : List ℕ) (n : ℕ) → NoZero (roots_below p n)
unfolding place_of
NoZero-roots p zero = tt
NoZero-roots p (suc n) =
    elim (eqb_tells (value_at p (power 2 (11 * n))) 0) [
      | inl t ↦ rw t.0 (power-nonzero 2 (11 * n) (omega arith) (omega arith), NoZero-roots p n)
      | inr t ↦ rw t.0 (NoZero-roots p n)
    ]

AllOther-roots : (p : List ℕ) (l n : ℕ) → n ≤ l → l < 255 → AllOther (place_of l) (roots_below p n)
unfolding place_of
AllOther-roots p l zero h m = tt
AllOther-roots p l (suc n) h m =
    elim (eqb_tells (value_at p (power 2 (11 * n))) 0) [
      | inl t ↦ rw t.0 (
        (λ e. let same : n ≡ l = place_apart n l (omega arith) m e in omega arith),
        AllOther-roots p l n (omega arith) m,
      )
      | inr t ↦ rw t.0 (AllOther-roots p l n (omega arith) m)
    ]

pub AllDifferent-roots : (p : List ℕ) (n : ℕ) → n ≤ 255 → AllDifferent (roots_below p n)
AllDifferent-roots p zero h = tt
AllDifferent-roots p (suc n) h =
    elim (eqb_tells (value_at p (place_of n)) 0) [
      | inl t ↦ rw t.0 (AllOther-roots p n n (omega arith) (omega arith), AllDifferent-roots p n (omega arith))
      | inr t ↦ rw t.0 (AllDifferent-roots p n (omega arith))
    ]

pub AreRoots-roots : (cs : List ℕ) (n : ℕ) → AreRoots cs (roots_below (1 ∷ cs) n)
AreRoots-roots cs zero = tt
AreRoots-roots cs (suc n) =
    elim (eqb_tells (value_at (1 ∷ cs) (place_of n)) 0) [
      | inl t ↦ rw t.0 (t.1, AreRoots-roots cs n)
      | inr t ↦ rw t.0 (AreRoots-roots cs n)
    ]

-- ---- a pattern's places are roots

pub weight_le_roots : (cs w : List ℕ) → AreRoots cs (places_of (terms_of w))
    → weight w ≤ length (roots_below (1 ∷ cs) (length w))
weight_le_roots cs [] h = omega arith
weight_le_roots cs (c ∷ ds) h =
    elim (eqb_tells c 0) [
      | inl t ↦ let h' = rw t.0 at h in
          elim (eqb_tells (value_at (1 ∷ cs) (place_of (length ds))) 0) [
            | inl s ↦ rw (t.0, s.0) (omega (arith, weight_le_roots cs ds h'))
            | inr s ↦ rw (t.0, s.0) (omega (arith, weight_le_roots cs ds h'))
          ]
      | inr t ↦ let h' = rw t.0 at h in
          elim (eqb_tells (value_at (1 ∷ cs) (place_of (length ds))) 0) [
            | inl s ↦ rw (t.0, s.0) (omega (arith, weight_le_roots cs ds h'.1))
            | inr s ↦ absurd (s.1 h'.0)
          ]
    ]

-- ---- the word of terms at the roots

abbrev pub put : Bool → List Term → (List Term → List ℕ) → List ℕ
put false ts f = 0 ∷ f ts
put true [] f = 0 ∷ f []
put true (t ∷ ts) f = t.value ∷ f ts

-- the terms' values at the roots, 0 elsewhere
abbrev pub spread : List ℕ → ℕ → List Term → List ℕ
spread p zero ts = []
spread p (suc n) ts = put (eqb (value_at p (place_of n)) 0) ts (spread p n)

no_cons : (A : Type 0) (x : ℕ) (xs : List ℕ) → [] ≡ x ∷ xs → A
no_cons A x xs e = cc

pub head_is : (x y : ℕ) (xs ys : List ℕ) → x ∷ xs ≡ y ∷ ys → x ≡ y
head_is x y xs ys e = cc

pub tail_is : (x y : ℕ) (xs ys : List ℕ) → x ∷ xs ≡ y ∷ ys → xs ≡ ys
tail_is x y xs ys e = cc

put-length : (n : ℕ) (f : List Term → List ℕ) → ((ts : List Term) → length (f ts) ≡ n) → (b : Bool) (ts : List Term)
    → length (put b ts f) ≡ suc n
put-length n f h false ts = ap suc (h ts)
put-length n f h true [] = ap suc (h [])
put-length n f h true (t ∷ ts) = ap suc (h ts)

pub length-spread : (p : List ℕ) (n : ℕ) (ts : List Term) → length (spread p n ts) ≡ n
length-spread p zero ts = refl
length-spread p (suc n) ts = put-length n (spread p n) (length-spread p n) (eqb (value_at p (place_of n)) 0) ts

put-elements : (f : List Term → List ℕ) → ((ts : List Term) → AreTerms ts → AreElements (f ts))
    → (b : Bool) (ts : List Term) → AreTerms ts → AreElements (put b ts f)
put-elements f h false ts a = (omega arith, h ts a)
put-elements f h true [] a = (omega arith, h [] a)
put-elements f h true (t ∷ ts) a = (a.0, h ts a.3)

pub AreElements-spread : (p : List ℕ) (n : ℕ) (ts : List Term) → AreTerms ts → AreElements (spread p n ts)
AreElements-spread p zero ts a = tt
AreElements-spread p (suc n) ts a =
    put-elements (spread p n) (AreElements-spread p n) (eqb (value_at p (place_of n)) 0) ts a

one_more : (b : Bool) → cond b 0 1 ≤ 1
one_more true = omega arith
one_more false = omega arith

put-weight : (f : List Term → List ℕ) → ((ts : List Term) → weight (f ts) ≤ length ts) → (b : Bool) (ts : List Term)
    → weight (put b ts f) ≤ length ts
put-weight f h false ts = omega (arith, h ts)
put-weight f h true [] = omega (arith, h [])
put-weight f h true (t ∷ ts) = omega (arith, h ts, one_more (eqb t.value 0))

weight-spread : (p : List ℕ) (n : ℕ) (ts : List Term) → weight (spread p n ts) ≤ length ts
weight-spread p zero ts = omega arith
weight-spread p (suc n) ts = put-weight (spread p n) (weight-spread p n) (eqb (value_at p (place_of n)) 0) ts

put-value : (j n x : ℕ) (f : List Term → List ℕ) (xs : List ℕ) → x ≡ power 2 (11 * n)
    → ((ts : List Term) → length (f ts) ≡ n)
    → ((ts : List Term) → places_of ts ≡ xs → value_at (f ts) (power 2 (11 * j)) ≡ power_sum j ts)
    → (b : Bool) (ts : List Term) → places_of ts ≡ add_place b x xs
    → value_at (put b ts f) (power 2 (11 * j)) ≡ power_sum j ts
put-value j n x f xs at len h false ts e =
    ap (λ (y : ℕ). bit_xor y (value_at (f ts) (power 2 (11 * j))))
    (zero-times (power (power 2 (11 * j)) (length (f ts)))) ∙ h ts e
put-value j n x f xs at len h true [] e = no_cons _ x xs e
put-value j n x f xs at len h true (t ∷ ts) e =
    ap (λ (y : ℕ). bit_xor (times t.value (power (power 2 (11 * j)) y)) (value_at (f ts) (power 2 (11 * j)))) (len ts)
    ∙ ap (λ (y : ℕ). bit_xor (times t.value y) (value_at (f ts) (power 2 (11 * j)))) (exchanged n j)
    ∙ ap (λ (y : ℕ). bit_xor (times t.value (power y j)) (value_at (f ts) (power 2 (11 * j))))
    (sym (head_is t.place x (places_of ts) xs e ∙ at))
    ∙ ap (bit_xor (times t.value (power t.place j))) (h ts (tail_is t.place x (places_of ts) xs e))

place_is : (n : ℕ) → place_of n ≡ power 2 (11 * n)
unfolding place_of
place_is n = refl

pub value_at-spread : (j : ℕ) (p : List ℕ) (n : ℕ) (ts : List Term) → places_of ts ≡ roots_below p n
    → value_at (spread p n ts) (power 2 (11 * j)) ≡ power_sum j ts
value_at-spread j p zero [] e = refl
value_at-spread j p zero (t ∷ ts) e = no_cons _ t.place (places_of ts) (sym e)
value_at-spread j p (suc n) ts e =
    put-value j n (place_of n) (spread p n) (roots_below p n) (place_is n) (length-spread p n) (value_at-spread j p n)
    (eqb (value_at p (place_of n)) 0) ts e

-- ---- the pattern

pub AreZero-roots : (cs : List ℕ) (ts : List Term) → AreRoots cs (places_of ts)
    → AreZero (weighted (value_at (1 ∷ cs)) ts)
AreZero-roots cs [] h = tt
AreZero-roots cs (t ∷ ts) h = (ap (times t.value) h.0 ∙ times-zero t.value, AreZero-roots cs ts h.1)

pub pattern_exists : (e count n : ℕ) (s : ℕ → ℕ) → ((k : ℕ) → s k < 256) → n ≤ 255 → (c : ℕ → ℕ) → ((i : ℕ) → c i < 256)
    → (l : ℕ) → Generates c l s (count) → 2 * l ≤ count → length (roots_below (listing c 0 (suc l)) n) ≡ l
    → (w : List ℕ) × Explains e count n s w
pattern_exists e count n s sl small c elements l g few counted =
    let p : List ℕ = 1 ∷ listing c 1 l in
    let monic : listing c 0 (suc l) ≡ p = ap (λ (y : ℕ). y ∷ listing c 1 l) g.first in
    let counted' : length (roots_below p n) ≡ l = ap (λ (ys : List ℕ). length (roots_below ys n)) (sym monic)
    ∙ counted in
    let sol : Solution (128 - e) (roots_below p n) s =
    solution (128 - e) (roots_below p n) s sl (AreElements-roots p n) (NoZero-roots p n)
    (AllDifferent-roots p n small) in
    let zeros : AreZero (weighted (value_at p) sol.terms) =
    AreZero-roots (listing c 1 l) sol.terms (subst (AreRoots (listing c 1 l)) (sym sol.at)
    (AreRoots-roots (listing c 1 l) n)) in
    let lc : length (listing c 1 l) ≡ l = length-listing c 1 l in
    let same : (j : ℕ) → j < count → sums_from (128 - e) sol.terms j ≡ s j =
    same_below (count) (listing c 1 l) (sums_from (128 - e) sol.terms) s (λ k. power_sum-lt (128 - e + k) sol.terms) sl
    (λ j lt. sol.meets j (omega arith))
    (λ m lt. window-sums p (128 - e) m sol.terms ∙ power_sum-zero (128 - e + m) (weighted (value_at p) sol.terms) zeros)
    (λ m lt. ap (λ (ys : List ℕ). window ys s m) (sym monic) ∙ sym (discrepancy-window c s l m)
    ∙ g.meets (m + l) (omega arith) (omega arith)) in (
      spread p n sol.terms,
      record {
        size = length-spread p n sol.terms;
        elements = AreElements-spread p n sol.terms sol.fit;
        few = omega (arith, weight-spread p n sol.terms, length-places_of sol.terms, ap length sol.at);
        meets = λ k lt. value_at-spread (128 - e + k) p n sol.terms sol.at ∙ same k lt;
      },
    )
