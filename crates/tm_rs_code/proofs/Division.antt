-- The locator divided by the factor of one of its roots, and the value there.
use Rattle.std.proofs.Common.{◌≡◌, ◌<◌, ◌≢◌, ℕ, zero, suc, ◌+◌, ◌-◌, List, [], ◌∷◌, ◌++◌, length, refl, ap, sym, ◌∙◌, arith, inl, inr, subst, add-zero}
use Rattle.std.specs.Prelude.{bit_xor}
use Rattle.std.specs.Int.Bits.{xor_zero_r, xor_self, xor_comm, xor_assoc}
use Rattle.std.proofs.lemmas.Bool.{cases_eq}
use Rattle.std.proofs.lemmas.Bool.Decides.{eqb_tells}
use Rattle.tm_gf256.specs.Field.{times, power}
use Rattle.tm_gf256.proofs.Ring.{zero-times, times-lt, times-zero, times-comm, times-cancel, plus-lt, plus_apart}
use Rattle.tm_gf256.proofs.PolyLemmas.{value_at-push}
use Rattle.tm_gf256.specs.Poly.{value_at}
use Rattle.tm_rs_code.specs.Code.{AreElements}
use Rattle.tm_rs_code.specs.Pattern.{carry}
use Rattle.tm_rs_code.specs.Recurrence.{discrepancy, listing}
use Rattle.tm_rs_code.specs.ErrorValues.{divided, quotient_at}
use Rattle.tm_rs_code.proofs.Vanish.{Term, AreTerms, AreApart}
use Rattle.tm_rs_code.proofs.Factor.{value_at-carry, value_at-lt, AreRoots, at_most_degree, product_of}
use Rattle.tm_rs_code.proofs.Windows.{window, sums_from, places_of, length-places_of, AreElements-places_of, AllDifferent-places_of}
use Rattle.tm_rs_code.proofs.Values.{window-same}
use Rattle.tm_rs_code.proofs.Recurrence.{length-listing, AreElements-listing, discrepancy-window}
use Rattle.tm_rs_code.proofs.Roots.{head_is, tail_is}
use Rattle.tm_rs_code.proofs.Forney.{value_is, value_of}

pub listing-push : (c : ℕ → ℕ) (i n : ℕ) → listing c i (suc n) ≡ listing c i n ++ c (i + n) ∷ []
listing-push c i zero = ap (λ (j : ℕ). c j ∷ []) (sym (add-zero i))
listing-push c i (suc n) =
    let same : suc i + n ≡ i + suc n = omega arith in
    ap (λ (ys : List ℕ). c i ∷ ys) (listing-push c (suc i) n)
    ∙ ap (λ (j : ℕ). c i ∷ (listing c (suc i) n ++ c j ∷ [])) same

pub divided_is_value : (c : ℕ → ℕ) → ((i : ℕ) → c i < 256) → (x n : ℕ) → value_at (listing c 0 n) x ≡ divided c x n
divided_is_value c h x zero = refl
divided_is_value c h x (suc n) =
    let same : 0 + n ≡ n = omega arith in
    ap (λ (ys : List ℕ). value_at ys x) (listing-push c 0 n) ∙ value_at-push (listing c 0 n) (c (0 + n)) x (h (0 + n))
    ∙ ap (λ (j : ℕ). bit_xor (times (value_at (listing c 0 n) x) x) (c j)) same
    ∙ ap (λ (y : ℕ). bit_xor (times y x) (c n)) (divided_is_value c h x n)
    ∙ xor_comm (times (divided c x n) x) (c n) ∙ ap (bit_xor (c n)) (times-comm (divided c x n) x)

pub divided-lt : (c : ℕ → ℕ) → ((i : ℕ) → c i < 256) → (x i : ℕ) → divided c x i < 256
divided-lt c h x zero = omega arith
divided-lt c h x (suc i) = plus-lt (c i) (times x (divided c x i)) (h i) (times-lt x (divided c x i))

cancel : (a b : ℕ) → bit_xor (bit_xor a b) b ≡ a
cancel a b = xor_assoc a b b ∙ ap (bit_xor a) (xor_self b) ∙ xor_zero_r a

-- where x is a root, the quotient times x + r is c
quotient_listing : (c : ℕ → ℕ) (x n i : ℕ) → divided c x (suc (suc i + n)) ≡ 0
    → carry x (divided c x (suc i)) (listing (quotient_at c x) (suc i) n) ≡ listing c (suc i) (suc n)
quotient_listing c x zero i z =
    ap (λ (y : ℕ). y ∷ []) (sym (plus_apart (c (suc i)) (times x (divided c x (suc i)))
    (ap (divided c x) (ap suc (sym (add-zero (suc i)))) ∙ z)))
quotient_listing c x (suc n) i z =
    let same : suc (suc (suc i) + n) ≡ suc (suc i + suc n) = omega arith in
    ap (λ (y : ℕ). y ∷ carry x (quotient_at c x (suc i)) (listing (quotient_at c x) (suc (suc i)) n))
    (cancel (c (suc i)) (times x (divided c x (suc i))))
    ∙ ap (λ (ys : List ℕ). c (suc i) ∷ ys) (quotient_listing c x n (suc i) (ap (divided c x) same ∙ z))

-- ---- the product's roots

AreRoots-carry : (r : ℕ) (qs rs : List ℕ) → AreRoots qs rs → AreRoots (carry r 1 qs) rs
AreRoots-carry r qs [] h = tt
AreRoots-carry r qs (s ∷ ss) h =
    (value_at-carry r 1 qs s ∙ ap (times (bit_xor s r)) h.0 ∙ times-zero (bit_xor s r), AreRoots-carry r qs ss h.1)

pub AreRoots-product : (rs : List ℕ) → AreRoots (product_of rs) rs
AreRoots-product [] = tt
AreRoots-product (r ∷ rs) = (
  value_at-carry r 1 (product_of rs) r ∙ ap (λ (y : ℕ). times y (value_at (1 ∷ product_of rs) r)) (xor_self r)
      ∙ zero-times (value_at (1 ∷ product_of rs) r),
  AreRoots-carry r (product_of rs) rs (AreRoots-product rs),
)

-- a quotient with the root once more has all roots
AreRoots-again : (r : ℕ) (qs rs : List ℕ) → r < 256 → AreElements rs → value_at (1 ∷ qs) r ≡ 0
    → AreRoots (carry r 1 qs) rs → AreRoots qs rs
AreRoots-again r qs [] h el z a = tt
AreRoots-again r qs (s ∷ ss) h el z a = (
  elim (cases_eq s r) [
    | inl e ↦ ap (value_at (1 ∷ qs)) e ∙ z
    | inr ne ↦ times-cancel (bit_xor s r) (value_at (1 ∷ qs) s) (plus-lt s r el.0 h) (value_at-lt (1 ∷ qs) s)
        (λ e. ne (plus_apart s r e))
        (sym (value_at-carry r 1 qs s) ∙ a.0)
  ],
  AreRoots-again r qs ss h el.1 z a.1,
)

-- ---- the value at a root

pub record IsValue (c s : ℕ → ℕ) (e l x v : ℕ) : Type 0 where
  pub value : discrepancy (quotient_at c x) s (l - 1) l ≡ times v
      (times (value_at (listing (quotient_at c x) 0 l) x) (power x (128 - e)))
  pub slope : value_at (listing (quotient_at c x) 0 l) x ≢ 0

-- c is the product over the places of the terms ts, whose power sums begin as s does
pub value_at_root : (e : ℕ) (s : ℕ → ℕ) (ts : List Term) → AreTerms ts → AreApart ts → (c : ℕ → ℕ)
    → ((i : ℕ) → c i < 256)
    → (l : ℕ) → length ts ≡ suc l → listing c 0 (suc (suc l)) ≡ 1 ∷ product_of (places_of ts)
    → ((k : ℕ) → k < suc l → sums_from (128 - e) ts k ≡ s k) → (x : ℕ) → x < 256
    → value_at (listing c 0 (suc (suc l))) x ≡ 0 → IsValue c s e (suc l) x (value_of x ts)
value_at_root e s ts terms apart c elements l same whole begins x xl root_is =
    let one : c 0 ≡ 1 = head_is (c 0) 1 (listing c 1 (suc l)) (product_of (places_of ts)) whole in
    let tail : listing c 1 (suc l) ≡ product_of (places_of ts) =
    tail_is (c 0) 1 (listing c 1 (suc l)) (product_of (places_of ts)) whole in
    let rest : divided c x (suc (suc 0 + l)) ≡ 0 =
    let j : suc (suc 0 + l) ≡ suc (suc l) = omega arith in ap (divided c x) j
    ∙ sym (divided_is_value c elements x (suc (suc l))) ∙ root_is in
    let first : divided c x 1 ≡ 1 = ap (bit_xor (c 0)) (times-zero x) ∙ xor_zero_r (c 0) ∙ one in
    let qs : List ℕ = listing (quotient_at c x) 1 l in
    let carried : carry x 1 qs ≡ product_of (places_of ts) =
    ap (λ (y : ℕ). carry x y qs) (sym first) ∙ quotient_listing c x l 0 rest ∙ tail in
    let monic : listing (quotient_at c x) 0 (suc l) ≡ 1 ∷ qs = ap (λ (y : ℕ). y ∷ qs) first in
    let roots : AreRoots (carry x 1 qs) (places_of ts) =
    subst (λ (ys : List ℕ). AreRoots ys (places_of ts)) (sym carried) (AreRoots-product (places_of ts)) in
    let places : AreElements (places_of ts) = AreElements-places_of ts terms in
    record {
      value =
          let back : suc l - 1 ≡ 0 + l = omega arith in
          ap (λ (k : ℕ). discrepancy (quotient_at c x) s k (suc l)) back
          ∙ discrepancy-window (quotient_at c x) s l 0
          ∙ sym (window-same (listing (quotient_at c x) 0 (suc l)) (sums_from (128 - e) ts) s 0
          (λ j lt. begins j (omega (arith, length-listing (quotient_at c x) 0 (suc l)))))
          ∙ ap (λ (ys : List ℕ). window ys (sums_from (128 - e) ts) 0) monic
          ∙ value_is x (128 - e) qs ts xl terms apart roots
          ∙ ap (λ (ys : List ℕ). times (value_of x ts) (times (value_at ys x) (power x (128 - e)))) (sym monic);
      slope = λ z.
          let again : AreRoots qs (places_of ts) =
          AreRoots-again x qs (places_of ts) xl places (ap (λ (ys : List ℕ). value_at ys x) (sym monic) ∙ z) roots in
          let most = at_most_degree (places_of ts) qs places (AllDifferent-places_of ts apart)
          (AreElements-listing (quotient_at c x) (λ i. divided-lt c elements x (suc i)) 1 l) again in
          omega (arith, most.0, length-places_of ts, length-listing (quotient_at c x) 1 l);
    }

-- ---- a place that is no root has no value

not_root : (cs : List ℕ) (ts : List Term) (x : ℕ) → AreRoots cs (places_of ts) → value_at (1 ∷ cs) x ≢ 0
    → value_of x ts ≡ 0
not_root cs [] x r ne = refl
not_root cs (t ∷ ts) x r ne =
    elim (eqb_tells t.place x) [
      | inl s ↦ absurd (ne (ap (value_at (1 ∷ cs)) (sym s.1) ∙ r.0))
      | inr s ↦ rw s.0 (not_root cs ts x r.1 ne)
    ]

pub no_value_there : (ls : List ℕ) (ts : List Term) (x : ℕ) → ls ≡ 1 ∷ product_of (places_of ts) → value_at ls x ≢ 0
    → value_of x ts ≡ 0
no_value_there ls ts x e ne =
    not_root (product_of (places_of ts)) ts x (AreRoots-product (places_of ts))
    (λ z. ne (ap (λ (ys : List ℕ). value_at ys x) e ∙ z))
