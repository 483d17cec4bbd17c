-- The value at a place, from the locator divided by that place's factor.
use Rattle.std.proofs.Common.{◌≡◌, ◌<◌, ◌≤◌, ◌≢◌, ℕ, ◌*◌, List, [], ◌∷◌, length, refl, ap, sym, ◌∙◌, arith, inl, inr, subst, eqb, cond, add-zero}
use Rattle.std.specs.Prelude.{bit_xor}
use Rattle.std.specs.Int.Bits.{xor_zero_r}
use Rattle.std.proofs.lemmas.Bool.Decides.{eqb_tells}
use Rattle.tm_gf256.specs.Field.{times, power}
use Rattle.tm_gf256.proofs.Ring.{zero-times, times-zero, times-assoc, times-cancel, plus-lt, plus_apart}
use Rattle.tm_gf256.specs.Poly.{value_at}
use Rattle.tm_rs_code.specs.Code.{place_of}
use Rattle.tm_rs_code.specs.Pattern.{carry}
use Rattle.tm_rs_code.specs.ErrorValues.{symbol_at}
use Rattle.tm_rs_code.proofs.Vanish.{Term, power_sum, AreTerms, ApartFrom, AreApart}
use Rattle.tm_rs_code.proofs.DistanceLaw.{terms_of, place_apart}
use Rattle.tm_rs_code.proofs.Factor.{value_at-carry, value_at-lt, AreRoots}
use Rattle.tm_rs_code.proofs.Windows.{window, sums_from, weighted, window-sums, places_of}

-- the value of the term at x, 0 where there is none
abbrev pub value_of : ℕ → List Term → ℕ
value_of x [] = 0
value_of x (t ∷ ts) = cond (eqb t.place x) t.value (value_of x ts)

-- q is 0 at each place but x
abbrev pub VanishesBut : ℕ → List ℕ → List Term → Type 0
VanishesBut x q [] = Unit {0}
VanishesBut x q (t ∷ ts) = (t.place ≢ x → value_at q t.place ≡ 0) × VanishesBut x q ts

gone : (x b : ℕ) (q : List ℕ) (t : Term) → value_at q t.place ≡ 0
    → times (times t.value (value_at q t.place)) (power t.place b) ≡ 0
gone x b q t z =
    ap (λ (y : ℕ). times (times t.value y) (power t.place b)) z
    ∙ ap (λ (y : ℕ). times y (power t.place b)) (times-zero t.value) ∙ zero-times (power t.place b)

all_gone : (x b : ℕ) (q : List ℕ) (ts : List Term) → ApartFrom x ts → VanishesBut x q ts
    → power_sum b (weighted (value_at q) ts) ≡ 0
all_gone x b q [] a v = refl
all_gone x b q (t ∷ ts) a v =
    ap (λ (y : ℕ). bit_xor y (power_sum b (weighted (value_at q) ts))) (gone x b q t (v.0 a.0))
    ∙ all_gone x b q ts a.1 v.1

pub one_left : (x b : ℕ) (q : List ℕ) (ts : List Term) → AreApart ts → VanishesBut x q ts
    → power_sum b (weighted (value_at q) ts) ≡ times (value_of x ts) (times (value_at q x) (power x b))
one_left x b q [] a v = sym (zero-times (times (value_at q x) (power x b)))
one_left x b q (t ∷ ts) a v =
    elim (eqb_tells t.place x) [
      | inl s ↦ rw s.0 (
          ap (bit_xor (times (times t.value (value_at q t.place)) (power t.place b)))
          (all_gone t.place b q ts a.0 (subst (λ (y : ℕ). VanishesBut y q ts) (sym s.1) v.1))
          ∙ xor_zero_r (times (times t.value (value_at q t.place)) (power t.place b))
          ∙ ap (λ (y : ℕ). times (times t.value (value_at q y)) (power y b)) s.1
          ∙ times-assoc t.value (value_at q x) (power x b))
      | inr s ↦ rw s.0 (
          ap (λ (y : ℕ). bit_xor y (power_sum b (weighted (value_at q) ts))) (gone x b q t (v.0 s.1))
          ∙ one_left x b q ts a.1 v.1)
    ]

VanishesBut-quotient : (x : ℕ) (qs : List ℕ) (ts : List Term) → x < 256 → AreTerms ts
    → AreRoots (carry x 1 qs) (places_of ts) → VanishesBut x (1 ∷ qs) ts
VanishesBut-quotient x qs [] l h r = tt
VanishesBut-quotient x qs (t ∷ ts) l h r = (
  (λ ne. times-cancel (bit_xor t.place x) (value_at (1 ∷ qs) t.place) (plus-lt t.place x h.1 l)
      (value_at-lt (1 ∷ qs) t.place) (λ e. ne (plus_apart t.place x e))
      (sym (value_at-carry x 1 qs t.place) ∙ r.0)),
  VanishesBut-quotient x qs ts l h.3 r.1,
)

-- the value at the root x: what the quotient's window gives, divided by its value and the power b of x
pub value_is : (x b : ℕ) (qs : List ℕ) (ts : List Term) → x < 256 → AreTerms ts → AreApart ts
    → AreRoots (carry x 1 qs) (places_of ts)
    → window (1 ∷ qs) (sums_from b ts) 0 ≡ times (value_of x ts) (times (value_at (1 ∷ qs) x) (power x b))
value_is x b qs ts l h a r =
    window-sums (1 ∷ qs) b 0 ts ∙ ap (λ (j : ℕ). power_sum j (weighted (value_at (1 ∷ qs)) ts)) (add-zero b)
    ∙ one_left x b (1 ∷ qs) ts a (VanishesBut-quotient x qs ts l h r)

pub no_symbol : (cs : List ℕ) (p : ℕ) → length cs ≤ p → symbol_at cs p ≡ 0
no_symbol [] p h = refl
no_symbol (c ∷ cs) p h =
    elim (eqb_tells (length cs) p) [
      | inl t ↦ absurd (omega (arith, t.1))
      | inr t ↦
          rw t.0 (no_symbol cs p (omega arith))
    ]

pub place_is : (n : ℕ) → place_of n ≡ power 2 (11 * n)
unfolding place_of
place_is n = refl

pub value_of-terms_of : (w : List ℕ) (p : ℕ) → length w ≤ 255 → p < 255
    → value_of (place_of p) (terms_of w) ≡ symbol_at w p
value_of-terms_of [] p h l = refl
value_of-terms_of (c ∷ cs) p h l =
    elim (eqb_tells (length cs) p) [
      | inl t ↦ elim (eqb_tells c 0) [
        | inl z ↦ rw (t.0, z.0) (value_of-terms_of cs p (omega arith) l ∙ no_symbol cs p (omega (arith, t.1)) ∙ sym z.1)
        | inr z ↦ elim (eqb_tells (place_of (length cs)) (place_of p)) [
          | inl s ↦ rw (t.0, z.0, s.0) refl
          | inr s ↦ absurd (s.1 (ap place_of t.1))
        ]
      ]
      | inr t ↦ elim (eqb_tells c 0) [
        | inl z ↦ rw (t.0, z.0) (value_of-terms_of cs p (omega arith) l)
        | inr z ↦ elim (eqb_tells (place_of (length cs)) (place_of p)) [
          | inl s ↦ absurd (t.1 (place_apart (length cs) p (omega arith) l
              (sym (place_is (length cs)) ∙ s.1 ∙ place_is p)))
          | inr s ↦ rw (t.0, z.0, s.0) (value_of-terms_of cs p (omega arith) l)
        ]
      ]
    ]
