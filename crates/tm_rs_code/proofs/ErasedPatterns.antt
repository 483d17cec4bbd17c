-- Patterns with erased places: the syndromes combined by the locator of the erased places are those of
-- a pattern without erased places.
use Rattle.std.proofs.Common.{◌≡◌, ◌<◌, ◌≤◌, ◌≢◌, ℕ, suc, ◌+◌, ◌*◌, ◌-◌, List, [], ◌∷◌, length, refl, ap, sym, ◌∙◌, arith, inl, inr, subst, eqb, true, false, Bool}
use Rattle.std.specs.Prelude.{bit_xor}
use Rattle.std.specs.Int.Bits.{xor_zero_r, xor_comm, xor_self, xor_assoc}
use Rattle.std.proofs.lemmas.Bool.Decides.{eqb_tells}
use Rattle.tm_gf256.specs.Field.{times}
use Rattle.tm_gf256.proofs.Ring.{zero-times, times-zero, times-comm, times-assoc, times-one, times-cancel, times-inverse, inverse, plus-lt}
use Rattle.tm_gf256.specs.Poly.{value_at}
use Rattle.tm_rs_code.specs.Code.{AreElements, place_of, root, weight}
use Rattle.tm_rs_code.specs.Register.{sums}
use Rattle.tm_rs_code.specs.Erasures.{IsErasedPattern, count_erased, marks, outside}
use Rattle.tm_rs_code.specs.Pattern.{Explains, locator_of, roots_below}
use Rattle.tm_rs_code.proofs.Vanish.{Term, AreZero, power_sum-zero}
use Rattle.tm_rs_code.proofs.DistanceLaw.{terms_of, length-terms_of, length-sums, AreElements-sums, value_at-sums}
use Rattle.tm_rs_code.proofs.Factor.{AreRoots, product_of, length-product_of, value_at-lt}
use Rattle.tm_rs_code.proofs.Windows.{window, window-sums, sums_from, weighted, places_of, length-places_of}
use Rattle.tm_rs_code.proofs.Values.{Solution, solution, window-same, same_below, power_sum-lt}
use Rattle.tm_rs_code.proofs.Locator.{locator-terms_of}
use Rattle.tm_rs_code.proofs.Roots.{AreElements-roots, NoZero-roots, AllDifferent-roots, AreRoots-roots, head_is, tail_is, put, spread, length-spread, AreElements-spread, value_at-spread, AreZero-roots}
use Rattle.tm_rs_code.proofs.Covering.{length-locator}
use Rattle.tm_rs_code.proofs.OnlyNearest.{length-outside}
use Rattle.tm_rs_code.proofs.ErasedPlaces.{count_of_roots, VanishesAt, erasures_vanish, length-marks, weight-marks, SameZeros, same_locator, same_weight, scaled_word, length-scaled_word, AreElements-scaled_word, window-word, window-sum}

-- ---- from a pattern with erased places

same_test : (x y : ℕ) → (x ≡ 0 → y ≡ 0) → (y ≡ 0 → x ≡ 0) → eqb x 0 ≡ eqb y 0
same_test x y to from =
    elim (eqb_tells x 0) [
      | inl s ↦ elim (eqb_tells y 0) [ inl t ↦ s.0 ∙ sym t.0 | inr t ↦ absurd (t.1 (to s.1)) ]
      | inr s ↦ elim (eqb_tells y 0) [ inl t ↦ absurd (s.1 (from t.1)) | inr t ↦ s.0 ∙ sym t.0 ]
    ]

-- a word times a polynomial that is 0 just at the erased places has zeros there, and else where the word has
SameZeros-scaled : (g : List ℕ) (fs : List Bool) (w : List ℕ) → length w ≡ length fs → AreElements w → VanishesAt g fs
    → SameZeros (scaled_word (value_at g) w) (outside fs w)
SameZeros-scaled g [] [] e h v = tt
SameZeros-scaled g [] (w ∷ ws) e h v = absurd (omega arith)
SameZeros-scaled g (f ∷ fs) [] e h v = tt
SameZeros-scaled g (true ∷ fs) (w ∷ ws) e h v =
    let same : length ws ≡ length fs = omega arith in
    let zero_is : times w (value_at g (place_of (length ws))) ≡ 0 =
    ap (λ (n : ℕ). times w (value_at g (place_of n))) same ∙ ap (times w) (v.0 refl) ∙ times-zero w in
    (ap (λ (y : ℕ). eqb y 0) zero_is, SameZeros-scaled g fs ws same h.1 v.2)
SameZeros-scaled g (false ∷ fs) (w ∷ ws) e h v =
    let same : length ws ≡ length fs = omega arith in (
      same_test (times w (value_at g (place_of (length ws)))) w
          (λ z. times-cancel (value_at g (place_of (length ws))) w (value_at-lt g (place_of (length ws))) h.0
          (λ y. v.1 refl (ap (λ (n : ℕ). value_at g (place_of n)) (sym same) ∙ y))
          (times-comm (value_at g (place_of (length ws))) w ∙ z))
          (λ z. ap (λ (y : ℕ). times y (value_at g (place_of (length ws)))) z
          ∙ zero-times (value_at g (place_of (length ws)))),
      SameZeros-scaled g fs ws same h.1 v.2,
    )

length-erasures : (fs : List Bool) → length (locator_of (marks fs)) ≡ suc (count_erased fs)
length-erasures fs = length-locator (marks fs) ∙ ap suc (weight-marks fs)

-- t are the syndromes s, combined by the locator of the erased places
abbrev pub AreModified : ℕ → List Bool → (ℕ → ℕ) → (ℕ → ℕ) → Type 0
AreModified e fs s t = (m : ℕ) → m < 2 * e - count_erased fs → t m ≡ window (locator_of (marks fs)) s m

pub same_places : (e : ℕ) (fs : List Bool) (s : ℕ → ℕ) (w : List ℕ) → length fs ≤ 255 → IsErasedPattern e fs s w
    → SameZeros (scaled_word (value_at (locator_of (marks fs))) w) (outside fs w)
same_places e fs s w short p =
    SameZeros-scaled (locator_of (marks fs)) fs w p.size p.elements (erasures_vanish fs short)

pub erased_explains : (e : ℕ) (fs : List Bool) (s t : ℕ → ℕ) (w : List ℕ) → length fs ≤ 255 → IsErasedPattern e fs s w
    → AreModified e fs s t
    → Explains e (2 * e - count_erased fs) (length fs) t (scaled_word (value_at (locator_of (marks fs))) w)
erased_explains e fs s t w short p comb =
    let g : List ℕ = locator_of (marks fs) in
    let same : weight (scaled_word (value_at g) w) ≡ weight (outside fs w) =
    same_weight (scaled_word (value_at g) w) (outside fs w)
    (length-scaled_word (value_at g) w ∙ sym (length-outside fs w)) (same_places e fs s w short p) in
    record {
      size = length-scaled_word (value_at g) w ∙ p.size;
      elements = AreElements-scaled_word (value_at g) w;
      few = omega (arith, p.few, same);
      meets = λ k lt.
          sym (window-word e g w k)
          ∙ window-same g (λ j. value_at w (root e j)) s k (λ j lj. p.meets j (omega (arith, length-erasures fs)))
          ∙ sym (comb k lt);
    }

-- ---- to a pattern with erased places

-- 0 at each erased place
abbrev pub ZeroInside : List Bool → List ℕ → Type 0
ZeroInside [] xs = Unit {0}
ZeroInside (f ∷ fs) [] = Unit {0}
ZeroInside (f ∷ fs) (x ∷ xs) = (f ≡ true → x ≡ 0) × ZeroInside fs xs

-- 0 at each place that is not erased
abbrev pub ZeroOutside : List Bool → List ℕ → Type 0
ZeroOutside [] xs = Unit {0}
ZeroOutside (f ∷ fs) [] = Unit {0}
ZeroOutside (f ∷ fs) (x ∷ xs) = (f ≡ false → x ≡ 0) × ZeroOutside fs xs

outside-sums : (fs : List Bool) (vs xs : List ℕ) → length vs ≡ length fs → length xs ≡ length fs → ZeroInside fs vs
    → ZeroOutside fs xs
    → outside fs (sums vs xs) ≡ vs
outside-sums [] [] xs e f a b = refl
outside-sums [] (v ∷ vs) xs e f a b = absurd (omega arith)
outside-sums (g ∷ fs) [] xs e f a b = absurd (omega arith)
outside-sums (g ∷ fs) (v ∷ vs) [] e f a b = absurd (omega arith)
outside-sums (true ∷ fs) (v ∷ vs) (x ∷ xs) e f a b =
    ap (λ (y : ℕ). y ∷ outside fs (sums vs xs)) (sym (a.0 refl))
    ∙ ap (λ (ys : List ℕ). v ∷ ys) (outside-sums fs vs xs (omega arith) (omega arith) a.1 b.1)
outside-sums (false ∷ fs) (v ∷ vs) (x ∷ xs) e f a b =
    ap (λ (y : ℕ). y ∷ outside fs (sums vs xs)) (ap (bit_xor v) (b.0 refl) ∙ xor_zero_r v)
    ∙ ap (λ (ys : List ℕ). v ∷ ys) (outside-sums fs vs xs (omega arith) (omega arith) a.1 b.1)

abbrev over : List ℕ → ℕ → ℕ
over g x = inverse (value_at g x)

-- to divide and then multiply changes no symbol outside
cancelled : (c y : ℕ) → c < 256 → y < 256 → y ≢ 0 → times (times c (inverse y)) y ≡ c
cancelled c y h l ne =
    times-assoc c (inverse y) y ∙ ap (times c) (times-comm (inverse y) y ∙ times-inverse y l ne) ∙ times-one c h

scaled-over : (g : List ℕ) (fs : List Bool) (w : List ℕ) → length w ≡ length fs → AreElements w → VanishesAt g fs
    → ZeroInside fs w
    → scaled_word (value_at g) (scaled_word (over g) w) ≡ w
scaled-over g [] [] e h v z = refl
scaled-over g [] (w ∷ ws) e h v z = absurd (omega arith)
scaled-over g (f ∷ fs) [] e h v z = refl
scaled-over g (true ∷ fs) (w ∷ ws) e h v z =
    let x : ℕ = place_of (length ws) in
    ap (λ (n : ℕ). times (times w (over g x)) (value_at g (place_of n))
    ∷ scaled_word (value_at g) (scaled_word (over g) ws)) (length-scaled_word (over g) ws)
    ∙ ap (λ (y : ℕ). y ∷ scaled_word (value_at g) (scaled_word (over g) ws))
    (ap (λ (y : ℕ). times (times y (over g x)) (value_at g x)) (z.0 refl)
    ∙ ap (λ (y : ℕ). times y (value_at g x)) (zero-times (over g x)) ∙ zero-times (value_at g x) ∙ sym (z.0 refl))
    ∙ ap (λ (ys : List ℕ). w ∷ ys) (scaled-over g fs ws (omega arith) h.1 v.2 z.1)
scaled-over g (false ∷ fs) (w ∷ ws) e h v z =
    let same : length ws ≡ length fs = omega arith in
    let x : ℕ = place_of (length ws) in
    ap (λ (n : ℕ). times (times w (over g x)) (value_at g (place_of n))
    ∷ scaled_word (value_at g) (scaled_word (over g) ws)) (length-scaled_word (over g) ws)
    ∙ ap (λ (y : ℕ). y ∷ scaled_word (value_at g) (scaled_word (over g) ws))
    (cancelled w (value_at g x) h.0 (value_at-lt g x) (λ y. v.1 refl
    (ap (λ (n : ℕ). value_at g (place_of n)) (sym same) ∙ y)))
    ∙ ap (λ (ys : List ℕ). w ∷ ys) (scaled-over g fs ws same h.1 v.2 z.1)

ZeroInside-over : (g : List ℕ) (fs : List Bool) (w : List ℕ) → ZeroInside fs w → ZeroInside fs (scaled_word (over g) w)
ZeroInside-over g [] w z = tt
ZeroInside-over g (f ∷ fs) [] z = tt
ZeroInside-over g (f ∷ fs) (w ∷ ws) z = (
  (λ e. ap (λ (y : ℕ). times y (over g (place_of (length ws)))) (z.0 e) ∙ zero-times (over g (place_of (length ws)))),
  ZeroInside-over g fs ws z.1,
)

-- where v times g is w, v and w have the same zeros outside
SameZeros-over : (g w : List ℕ) → scaled_word (value_at g) (scaled_word (over g) w) ≡ w
    → SameZeros (scaled_word (over g) w) w
SameZeros-over g [] e = tt
SameZeros-over g (w ∷ ws) e =
    let x : ℕ = place_of (length ws) in (
      same_test (times w (over g x)) w
          (λ z. sym (head_is _ w _ ws e) ∙ ap (λ (y : ℕ). times y
          (value_at g (place_of (length (scaled_word (over g) ws))))) z
          ∙ zero-times (value_at g (place_of (length (scaled_word (over g) ws)))))
          (λ z. ap (λ (y : ℕ). times y (over g x)) z ∙ zero-times (over g x)),
      SameZeros-over g ws (tail_is _ w _ ws e),
    )

-- terms at the roots stand at erased places alone
put-zero : (b : Bool) (ts : List Term) (f : List Term → List ℕ) (fs : List Bool) (g : Bool)
    → ((us : List Term) → ZeroOutside fs (f us)) → (g ≡ false → b ≡ false) → ZeroOutside (g ∷ fs) (put b ts f)
put-zero false ts f fs g h n = ((λ e. refl), h ts)
put-zero true [] f fs g h n = ((λ e. refl), h [])
put-zero true (t ∷ ts) f fs g h n = ((λ e. absurd (differ (n e))), h ts)
  where
    differ : true ≡ false → ⊥
    differ e = cc

not_zero : (n : ℕ) → n ≢ 0 → eqb n 0 ≡ false
not_zero n ne = elim (eqb_tells n 0) [ inl t ↦ absurd (ne t.1) | inr t ↦ t.0 ]

ZeroOutside-spread : (g : List ℕ) (fs : List Bool) (ts : List Term) → VanishesAt g fs
    → ZeroOutside fs (spread g (length fs) ts)
ZeroOutside-spread g [] ts v = tt
ZeroOutside-spread g (f ∷ fs) ts v =
    put-zero (eqb (value_at g (place_of (length fs))) 0) ts (spread g (length fs)) fs f
    (λ us. ZeroOutside-spread g fs us v.2) (λ e. not_zero (value_at g (place_of (length fs))) (v.1 e))

-- the erased places are as many as the roots of their locator
count_of_erasures : (fs : List Bool) → length fs ≤ 255 → length (roots_below (locator_of (marks fs)) (length fs))
    ≡ count_erased fs
count_of_erasures fs short =
    ap (λ (n : ℕ). length (roots_below (locator_of (marks fs)) n)) (sym (length-marks fs))
    ∙ count_of_roots (marks fs) (omega (arith, length-marks fs)) ∙ weight-marks fs

back : (x y : ℕ) → bit_xor x (bit_xor y x) ≡ y
back x y =
    ap (bit_xor x) (xor_comm y x) ∙ sym (xor_assoc x x y) ∙ ap (λ (z : ℕ). bit_xor z y) (xor_self x) ∙ xor_comm 0 y
    ∙ xor_zero_r y

-- a pattern with erased places whose other places are those of w
pub record Found (e : ℕ) (fs : List Bool) (s : ℕ → ℕ) (w : List ℕ) : Type 0 where
  pub word : List ℕ
  pub pattern : IsErasedPattern e fs s word
  pub locator : locator_of (outside fs word) ≡ locator_of w
  pub places : weight (outside fs word) ≡ weight w

pub erased_exists : (e : ℕ) (fs : List Bool) (s t : ℕ → ℕ) → ((k : ℕ) → s k < 256) → (w : List ℕ) → length fs ≤ 255
    → count_erased fs ≤ 2 * e
    → AreModified e fs s t → Explains e (2 * e - count_erased fs) (length fs) t w → ZeroInside fs w → Found e fs s w
erased_exists e fs s t sl w short most comb ex zeros =
    let n : ℕ = length fs in
    let g : List ℕ = locator_of (marks fs) in
    let gs : List ℕ = product_of (places_of (terms_of (marks fs))) in
    let ls : g ≡ 1 ∷ gs = locator-terms_of (marks fs) in
    let lg : length gs ≡ count_erased fs = omega (
      arith,
      length-product_of (places_of (terms_of (marks fs))),
      length-places_of (terms_of (marks fs)),
      length-terms_of (marks fs),
      weight-marks fs,
    ) in
    let at : VanishesAt g fs = erasures_vanish fs short in
    let v : List ℕ = scaled_word (over g) w in
    let again : scaled_word (value_at g) v ≡ w = scaled-over g fs w ex.size ex.elements at zeros in
    let r : (ℕ → ℕ) = λ k. bit_xor (s k) (value_at v (root e k)) in
    let rl : (k : ℕ) → r k < 256 = λ k. plus-lt (s k) (value_at v (root e k)) (sl k) (value_at-lt v (root e k)) in
    let sol : Solution (128 - e) (roots_below (1 ∷ gs) n) r =
    solution (128 - e) (roots_below (1 ∷ gs) n) r rl (AreElements-roots (1 ∷ gs) n) (NoZero-roots (1 ∷ gs) n)
    (AllDifferent-roots (1 ∷ gs) n short) in
    let counted : length (roots_below (1 ∷ gs) n) ≡ count_erased fs =
    ap (λ (ys : List ℕ). length (roots_below ys n)) (sym ls) ∙ count_of_erasures fs short in
    let none : AreZero (weighted (value_at (1 ∷ gs)) sol.terms) =
    AreZero-roots gs sol.terms (subst (AreRoots gs) (sym sol.at) (AreRoots-roots gs n)) in
    let meets_r : (m : ℕ) → m + length gs < 2 * e → window (1 ∷ gs) r m ≡ 0 = λ m lt.
    window-sum (1 ∷ gs) s (λ k. value_at v (root e k)) m
    ∙ ap (λ (y : ℕ). bit_xor (window (1 ∷ gs) s m) y) (ap (λ (ys : List ℕ). window ys (λ k. value_at v (root e k)) m)
    (sym ls) ∙ window-word e g v m
    ∙ ap (λ (ys : List ℕ). value_at ys (root e m)) again ∙ ex.meets m (omega arith))
    ∙ ap (λ (y : ℕ). bit_xor y (t m)) (ap (λ (ys : List ℕ). window ys s m) (sym ls) ∙ sym (comb m (omega arith)))
    ∙ xor_self (t m) in
    let same : (j : ℕ) → j < 2 * e → sums_from (128 - e) sol.terms j ≡ r j =
    same_below (2 * e) gs (sums_from (128 - e) sol.terms) r (λ k. power_sum-lt (128 - e + k) sol.terms) rl
    (λ j lt. sol.meets j (omega arith))
    (λ m lt. window-sums (1 ∷ gs) (128 - e) m sol.terms ∙ power_sum-zero (128 - e + m)
    (weighted (value_at (1 ∷ gs)) sol.terms) none)
    meets_r in
    let x : List ℕ = spread (1 ∷ gs) n sol.terms in
    let lv : length v ≡ n = length-scaled_word (over g) w ∙ ex.size in
    let lx : length x ≡ n = length-spread (1 ∷ gs) n sol.terms in
    let out : outside fs (sums v x) ≡ v =
    outside-sums fs v x lv lx (ZeroInside-over g fs w zeros)
    (ZeroOutside-spread (1 ∷ gs) fs sol.terms (subst (λ (ys : List ℕ). VanishesAt ys fs) ls at)) in
    let zero_alike : SameZeros v w = SameZeros-over g w again in
    let weights : weight v ≡ weight w = same_weight v w (lv ∙ sym ex.size) zero_alike in
    record {
      word = sums v x;
      pattern = record {
        size = length-sums v x (lv ∙ sym lx) ∙ lv;
        elements =
            AreElements-sums v x (AreElements-scaled_word (over g) w)
            (AreElements-spread (1 ∷ gs) n sol.terms sol.fit);
        few = omega (arith, ap weight out, weights, ex.few);
        meets = λ k lt.
            value_at-sums v x (root e k) (lv ∙ sym lx)
            ∙ ap (bit_xor (value_at v (root e k))) (value_at-spread (128 - e + k) (1 ∷ gs) n sol.terms sol.at
            ∙ same k lt)
            ∙ back (value_at v (root e k)) (s k);
      };
      locator = ap locator_of out ∙ same_locator v w (lv ∙ sym ex.size) zero_alike;
      places = ap weight out ∙ weights;
    }
