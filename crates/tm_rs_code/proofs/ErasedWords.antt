-- Words with erased places and their error patterns.
use Rattle.std.proofs.Common.{◌≡◌, ◌<◌, ◌≤◌, ◌≢◌, ℕ, suc, ◌+◌, ◌*◌, List, [], ◌∷◌, length, refl, ap, sym, ◌∙◌, arith, inl, inr, true, false, Bool}
use Rattle.std.specs.Prelude.{bit_xor}
use Rattle.std.specs.Int.Bits.{xor_zero_r, xor_self}
use Rattle.std.proofs.lemmas.Bool.{cases_eq}
use Rattle.std.proofs.lemmas.Bool.Decides.{eqb_tells}
use Rattle.tm_gf256.specs.Poly.{value_at}
use Rattle.tm_rs_code.specs.Code.{AreElements, place_of, root, weight, distance}
use Rattle.tm_rs_code.specs.Register.{sums}
use Rattle.tm_rs_code.specs.Nearest.{IsCodewordOf}
use Rattle.tm_rs_code.specs.Erasures.{IsErasedPattern, IsNearestErased, IsWithin, count_erased, outside, inside, places_named}
use Rattle.tm_rs_code.specs.Erasures.NearestErased.{Fixed, Beyond}
use Rattle.tm_rs_code.specs.Pattern.{locator_of}
use Rattle.tm_rs_code.specs.ErrorValues.{Covers, IsLocated, symbol_at}
use Rattle.tm_rs_code.proofs.DistanceLaw.{value_at-sums, length-sums, AreElements-sums, weight-sums}
use Rattle.tm_rs_code.proofs.Nearest.{distance-comm}
use Rattle.tm_rs_code.proofs.OnlyNearest.{distance_outside, length-outside}
use Rattle.tm_rs_code.proofs.Corrections.{distance_le_weights, distance-sums, near_words_same}
use Rattle.tm_rs_code.proofs.ErasedPlaces.{root_has_symbol, symbol_has_root, symbol_at-head, symbol_at-tail}

-- ---- parts of sums

outside-sum : (fs : List Bool) (us vs : List ℕ) → length us ≡ length vs
    → outside fs (sums us vs) ≡ sums (outside fs us) (outside fs vs)
outside-sum [] us vs e = refl
outside-sum (f ∷ fs) [] vs e = refl
outside-sum (f ∷ fs) (u ∷ us) [] e = absurd (omega arith)
outside-sum (true ∷ fs) (u ∷ us) (v ∷ vs) e = ap (λ (ys : List ℕ). 0 ∷ ys) (outside-sum fs us vs (omega arith))
outside-sum (false ∷ fs) (u ∷ us) (v ∷ vs) e =
    ap (λ (ys : List ℕ). bit_xor u v ∷ ys) (outside-sum fs us vs (omega arith))

inside-sum : (fs : List Bool) (us vs : List ℕ) → length us ≡ length vs
    → inside fs (sums us vs) ≡ sums (inside fs us) (inside fs vs)
inside-sum [] us vs e = refl
inside-sum (f ∷ fs) [] vs e = refl
inside-sum (f ∷ fs) (u ∷ us) [] e = absurd (omega arith)
inside-sum (true ∷ fs) (u ∷ us) (v ∷ vs) e = ap (λ (ys : List ℕ). bit_xor u v ∷ ys) (inside-sum fs us vs (omega arith))
inside-sum (false ∷ fs) (u ∷ us) (v ∷ vs) e = ap (λ (ys : List ℕ). 0 ∷ ys) (inside-sum fs us vs (omega arith))

length-inside : (fs : List Bool) (us vs : List ℕ) → length us ≡ length vs
    → length (inside fs us) ≡ length (inside fs vs)
length-inside [] us vs e = refl
length-inside (f ∷ fs) [] [] e = refl
length-inside (f ∷ fs) [] (v ∷ vs) e = absurd (omega arith)
length-inside (f ∷ fs) (u ∷ us) [] e = absurd (omega arith)
length-inside (f ∷ fs) (u ∷ us) (v ∷ vs) e = ap suc (length-inside fs us vs (omega arith))

AreElements-outside : (fs : List Bool) (us : List ℕ) → AreElements us → AreElements (outside fs us)
AreElements-outside [] us h = h
AreElements-outside (f ∷ fs) [] h = tt
AreElements-outside (true ∷ fs) (u ∷ us) h = (omega arith, AreElements-outside fs us h.1)
AreElements-outside (false ∷ fs) (u ∷ us) h = (h.0, AreElements-outside fs us h.1)

same_length : (fs : List Bool) (us vs : List ℕ) → length us ≡ length vs
    → length (outside fs us) ≡ length (outside fs vs)
same_length fs us vs e = length-outside fs us ∙ e ∙ sym (length-outside fs vs)

-- ---- patterns and codewords

pub erased_pattern_unique : (e : ℕ) (fs : List Bool) (s : ℕ → ℕ) (v w : List ℕ) → length fs ≤ 255
    → IsErasedPattern e fs s v → IsErasedPattern e fs s w → v ≡ w
erased_pattern_unique e fs s v w short pv pw =
    let same : length v ≡ length w = pv.size ∙ sym pw.size in
    near_words_same e s v w (omega (arith, pv.size)) same pv.elements pw.elements pv.meets pw.meets (omega (
      arith,
      distance_outside fs v w same (sym pv.size),
      distance_le_weights (outside fs v) (outside fs w) (same_length fs v w same),
      pv.few,
      pw.few,
    ))

outside_weight : (fs : List Bool) (u c : List ℕ) → length u ≡ length c
    → weight (outside fs (sums u c)) ≡ distance (outside fs c) (outside fs u)
outside_weight fs u c e =
    ap weight (outside-sum fs u c e) ∙ weight-sums (outside fs u) (outside fs c)
    ∙ distance-comm (outside fs u) (outside fs c) (same_length fs u c e)

pub erased_pattern_of_codeword : (e bound : ℕ) (fs : List Bool) (s : ℕ → ℕ) (u c : List ℕ) → length u ≡ length fs
    → AreElements u
    → ((k : ℕ) → k < 2 * e → value_at u (root e k) ≡ s k) → IsCodewordOf e (length u) c → IsWithin e bound fs u c
    → IsErasedPattern e fs s (sums u c)
erased_pattern_of_codeword e bound fs s u c lu eu su hc near =
    let same : length u ≡ length c = sym hc.size in
    record {
      size = length-sums u c same ∙ lu;
      elements = AreElements-sums u c eu hc.elements;
      few = omega (arith, near.few, outside_weight fs u c same);
      meets =
          λ k lt. value_at-sums u c (root e k) same ∙ ap (bit_xor (value_at u (root e k))) (hc.codeword k lt)
          ∙ xor_zero_r (value_at u (root e k)) ∙ su k lt;
    }

-- ---- the answers

pub fixed_erased : (e bound a b : ℕ) (fs : List Bool) (s : ℕ → ℕ) (old new w : List ℕ) → length old ≡ length fs
    → AreElements old
    → ((k : ℕ) → k < 2 * e → value_at old (root e k) ≡ s k) → IsErasedPattern e fs s w → a ≡ weight (outside fs w)
    → b ≡ weight (inside fs w) → a ≤ bound
    → new ≡ sums old w → IsNearestErased e bound fs old (Fixed new a b)
fixed_erased e bound a b fs s old new w len el values pat ea eb few is =
    let same : length old ≡ length w = len ∙ sym pat.size in
    let outer : distance (outside fs new) (outside fs old) ≡ a =
    ap (λ (y : List ℕ). distance (outside fs y) (outside fs old)) is
    ∙ ap (λ (y : List ℕ). distance y (outside fs old)) (outside-sum fs old w same)
    ∙ distance-sums (outside fs old) (outside fs w) (same_length fs old w same) ∙ sym ea in
    let inner : distance (inside fs new) (inside fs old) ≡ b =
    ap (λ (y : List ℕ). distance (inside fs y) (inside fs old)) is
    ∙ ap (λ (y : List ℕ). distance y (inside fs old)) (inside-sum fs old w same)
    ∙ distance-sums (inside fs old) (inside fs w) (length-inside fs old w same) ∙ sym eb in (
      record {
        size = ap length is ∙ length-sums old w same;
        elements = rw is (AreElements-sums old w el pat.elements);
        codeword =
            rw is (λ k lt. value_at-sums old w (root e k) same
            ∙ ap (λ (y : ℕ). bit_xor y (value_at w (root e k))) (values k lt)
            ∙ ap (bit_xor (s k)) (pat.meets k lt) ∙ xor_self (s k));
      },
      record { bounded = omega (arith, outer); few = omega (arith, outer, pat.few) },
      outer,
      inner,
    )

pub beyond_erased_far : (e bound a : ℕ) (fs : List Bool) (s : ℕ → ℕ) (old w : List ℕ) → length fs ≤ 255
    → length old ≡ length fs → AreElements old
    → ((k : ℕ) → k < 2 * e → value_at old (root e k) ≡ s k) → IsErasedPattern e fs s w → a ≡ weight (outside fs w)
    → bound < a → IsNearestErased e bound fs old Beyond
beyond_erased_far e bound a fs s old w short len el values pat ea many c code near =
    let mine : IsErasedPattern e fs s (sums old c) = erased_pattern_of_codeword e bound fs s old c len el values code
    near in
    let same : sums old c ≡ w = erased_pattern_unique e fs s (sums old c) w short mine pat in
    omega (
      arith,
      near.bounded,
      outside_weight fs old c (sym code.size),
      ap (λ (y : List ℕ). weight (outside fs y)) same,
    )

pub beyond_erased_none : (e bound : ℕ) (fs : List Bool) (s : ℕ → ℕ) (old : List ℕ) → length old ≡ length fs
    → AreElements old
    → ((k : ℕ) → k < 2 * e → value_at old (root e k) ≡ s k) → ((w : List ℕ) → IsErasedPattern e fs s w → ⊥)
    → IsNearestErased e bound fs old Beyond
beyond_erased_none e bound fs s old len el values none c code near =
    none (sums old c) (erased_pattern_of_codeword e bound fs s old c len el values code near)

-- ---- the places that are erased or wrong

pub length-places_named : (g : List ℕ) (fs : List Bool) → length (places_named g fs) ≡ length fs
length-places_named g [] = refl
length-places_named g (f ∷ fs) = ap suc (length-places_named g fs)

one_not : (n : ℕ) → n ≡ 1 → n ≡ 0 → ⊥
one_not n e z = omega arith

-- where the other places are named by g, no symbol stands elsewhere
covers_named : (g : List ℕ) (fs : List Bool) (ws : List ℕ) → length ws ≡ length fs
    → ((p : ℕ) → p < length fs → symbol_at (outside fs ws) p ≢ 0 → value_at g (place_of p) ≡ 0)
    → Covers (places_named g fs) ws
covers_named g [] ws e h = tt
covers_named g (f ∷ fs) [] e h = tt
covers_named g (true ∷ fs) (w ∷ ws) e h =
    let same : length ws ≡ length fs = omega arith in (
      (λ z. absurd (one_not 1 refl z)),
      covers_named g fs ws same
          (λ p lt ne. h p (omega arith) (λ z. ne (sym (symbol_at-tail 0 (outside fs ws) p
          (omega (arith, length-outside fs ws))) ∙ z))),
    )
covers_named g (false ∷ fs) (w ∷ ws) e h =
    let same : length ws ≡ length fs = omega arith in (
      (λ z. elim (eqb_tells (value_at g (place_of (length fs))) 0) [
        | inl t ↦ let z' = rw t.0 at z in absurd (omega arith)
        | inr t ↦ elim (cases_eq w 0) [
          | inl y ↦ y
          | inr ne ↦ absurd (t.1 (h (length fs) (omega arith)
              (λ y. ne (sym (symbol_at-head w (outside fs ws) (length fs) (length-outside fs ws ∙ same)) ∙ y))))
        ]
      ]),
      covers_named g fs ws same
          (λ p lt ne. h p (omega arith) (λ z. ne (sym (symbol_at-tail w (outside fs ws) p
          (omega (arith, length-outside fs ws))) ∙ z))),
    )

-- and the named places are no more than the erased ones and the others
weight_named : (g : List ℕ) (fs : List Bool) (ws : List ℕ) → length ws ≡ length fs
    → ((p : ℕ) → p < length fs → value_at g (place_of p) ≡ 0 → symbol_at (outside fs ws) p ≢ 0)
    → weight (places_named g fs) ≤ weight (outside fs ws) + count_erased fs
weight_named g [] ws e h = omega arith
weight_named g (f ∷ fs) [] e h = absurd (omega arith)
weight_named g (true ∷ fs) (w ∷ ws) e h =
    omega (
      arith,
      weight_named g fs ws (omega arith)
          (λ p lt r z. h p (omega arith) r (symbol_at-tail 0 (outside fs ws) p (omega (arith, length-outside fs ws))
          ∙ z)),
    )
weight_named g (false ∷ fs) (w ∷ ws) e h =
    let same : length ws ≡ length fs = omega arith in
    let rest = weight_named g fs ws same
    (λ p lt r z. h p (omega arith) r (symbol_at-tail w (outside fs ws) p (omega (arith, length-outside fs ws)) ∙ z)) in
    elim (eqb_tells (value_at g (place_of (length fs))) 0) [
      | inl t ↦ elim (eqb_tells w 0) [
        | inl y ↦ absurd (h (length fs) (omega arith) t.1 (symbol_at-head w (outside fs ws) (length fs)
            (length-outside fs ws ∙ same) ∙ y.1))
        | inr y ↦ rw (t.0, y.0) (omega (arith, rest))
      ]
      | inr t ↦ rw t.0 (omega (arith, rest))
    ]

-- the locator of the named places finds the whole pattern
pub located_erased : (e : ℕ) (fs : List Bool) (s : ℕ → ℕ) (g : List ℕ) (w : List ℕ) → length fs ≤ 255
    → IsErasedPattern e fs s w
    → g ≡ locator_of (outside fs w) → IsLocated e s (locator_of (places_named g fs)) (places_named g fs) w
located_erased e fs s g w short p is =
    let lo : length (outside fs w) ≡ length fs = length-outside fs w ∙ p.size in
    record {
      locator_is = refl;
      size = p.size ∙ sym (length-places_named g fs);
      short = omega (arith, length-places_named g fs);
      elements = p.elements;
      covered = covers_named g fs w p.size
          (λ q lt ne. ap (λ (y : List ℕ). value_at y (place_of q)) is
          ∙ symbol_has_root (outside fs w) q (omega arith) (omega arith) ne);
      few = omega (
        arith,
        p.few,
        weight_named g fs w p.size
            (λ q lt r. root_has_symbol (outside fs w) q (AreElements-outside fs w p.elements) (omega arith)
            (omega arith) (ap (λ (y : List ℕ). value_at y (place_of q)) (sym is) ∙ r)),
      );
      meets = p.meets;
    }
