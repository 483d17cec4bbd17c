-- Erased places, one after another.
use Rattle.std.proofs.Common.{◌≡◌, ◌<◌, ◌≤◌, ◌+◌, ◌-◌, ◌*◌, ℕ, zero, suc, List, [], ◌∷◌, length, drop, get_or, arith, ap, sym, ◌∙◌, refl, subst, cond, true, false, Bool}
use Rattle.std.specs.Prelude.{bit_xor}
use Rattle.std.specs.Int.Bits.{xor_comm, xor_zero_r}
use Rattle.tm_gf256.specs.Field.{times, power}
use Rattle.tm_gf256.specs.declared.Gf.{Gf}
use Rattle.tm_gf256.specs.Poly.{entry}
use Rattle.tm_rs_code.specs.Code.{place_of}
use Rattle.tm_rs_code.specs.Erasures.{count_erased, marks}
use Rattle.tm_rs_code.specs.Pattern.{carry, locator_of, times_linear}
use Rattle.tm_rs_code.specs.Recurrence.{listing, patched}
use Rattle.tm_rs_code.proofs.Recurrence.{patched_low, patched_high}
use Rattle.tm_rs_code.proofs.ErasedPlaces.{length-marks}

-- ---- the flags from j on

pub drop_step : (fs : List Bool) (j : ℕ) → j < length fs → drop j fs ≡ get_or fs j false ∷ drop (suc j) fs
drop_step [] j h = absurd (omega arith)
drop_step (f ∷ fs) zero h = refl
drop_step (f ∷ fs) (suc j) h = drop_step fs j (omega arith)

pub length-drop : (fs : List Bool) (j : ℕ) → j ≤ length fs → length (drop j fs) + j ≡ length fs
length-drop fs zero h = omega arith
length-drop [] (suc j) h = absurd (omega arith)
length-drop (f ∷ fs) (suc j) h = omega (arith, length-drop fs j (omega arith))

pub drop_all : (fs : List Bool) → drop (length fs) fs ≡ []
drop_all [] = refl
drop_all (f ∷ fs) = drop_all fs

pub count_drop : (fs : List Bool) (j : ℕ) → count_erased (drop j fs) ≤ count_erased fs
count_drop fs zero = omega arith
count_drop [] (suc j) = omega arith
count_drop (f ∷ fs) (suc j) = omega (arith, count_drop fs j)

pub count_step : (fs : List Bool) (j : ℕ) (b : Bool) → j < length fs → get_or fs j false ≡ b
    → count_erased (drop j fs) ≡ cond b 1 0 + count_erased (drop (suc j) fs)
count_step fs j b h e =
    ap count_erased (drop_step fs j h) ∙ ap (λ (f : Bool). cond f 1 0 + count_erased (drop (suc j) fs)) e

pub marks_step : (fs : List Bool) (j : ℕ) (b : Bool) → j < length fs → get_or fs j false ≡ b
    → marks (drop j fs) ≡ cond b 1 0 ∷ marks (drop (suc j) fs)
marks_step fs j b h e = ap marks (drop_step fs j h) ∙ ap (λ (f : Bool). cond f 1 0 ∷ marks (drop (suc j) fs)) e

-- ---- one factor more

listing-carry : (c : ℕ → ℕ) (x n i : ℕ) → c (suc i + n) ≡ 0
    → carry x (c i) (listing c (suc i) n) ≡ listing (patched c x 1 c) (suc i) (suc n)
listing-carry c x zero i z =
    let at : suc i + 0 ≡ suc i = omega arith in
    let before : suc i - 1 ≡ i = omega arith in
    ap (λ (y : ℕ). y ∷ [])
    (sym (patched_high c c x 1 (suc i) (omega arith) ∙ ap (λ (y : ℕ). bit_xor y (times x (c (suc i - 1))))
    (sym (ap c at) ∙ z)
    ∙ xor_comm 0 (times x (c (suc i - 1))) ∙ xor_zero_r (times x (c (suc i - 1)))
    ∙ ap (λ (k : ℕ). times x (c k)) before))
listing-carry c x (suc n) i z =
    let at : suc (suc i) + n ≡ suc i + suc n = omega arith in
    let before : suc i - 1 ≡ i = omega arith in
    ap (λ (y : ℕ). y ∷ carry x (c (suc i)) (listing c (suc (suc i)) n))
    (sym (patched_high c c x 1 (suc i) (omega arith) ∙ ap (λ (k : ℕ). bit_xor (c (suc i)) (times x (c k))) before))
    ∙ ap (λ (ys : List ℕ). patched c x 1 c (suc i) ∷ ys) (listing-carry c x n (suc i) (ap c at ∙ z))

pub listing-linear : (c : ℕ → ℕ) (x d : ℕ) → c (suc d) ≡ 0 → times_linear x (listing c 0 (suc d))
    ≡ listing (patched c x 1 c) 0 (suc (suc d))
listing-linear c x d z =
    let at : suc 0 + d ≡ suc d = omega arith in
    ap (λ (y : ℕ). y ∷ carry x (c 0) (listing c 1 d)) (sym (patched_low c c x 1 0 (omega arith)))
    ∙ ap (λ (ys : List ℕ). patched c x 1 c 0 ∷ ys) (listing-carry c x d 0 (ap c at ∙ z))

pub listing-same : (c d : ℕ → ℕ) (i n : ℕ) → ((k : ℕ) → k < i + n → c k ≡ d k) → listing c i n ≡ listing d i n
listing-same c d i zero h = refl
listing-same c d i (suc n) h =
    ap (λ (y : ℕ). y ∷ listing c (suc i) n) (h i (omega arith))
    ∙ ap (λ (ys : List ℕ). d i ∷ ys) (listing-same c d (suc i) n (λ k lt. h k (omega arith)))

-- c is the locator of the places of u
pub record IsProduct (c : ℕ → ℕ) (degree : ℕ) (u : List ℕ) : Type 0 where
  pub listed : listing c 0 (suc degree) ≡ locator_of u
  pub beyond : (i : ℕ) → suc degree ≤ i → c i ≡ 0

pub product_more : (c d : ℕ → ℕ) (degree x p : ℕ) (u v : List ℕ) → IsProduct c degree u → x ≡ power 2 (11 * p)
    → length u ≡ p → v ≡ 1 ∷ u
    → ((i : ℕ) → i < degree + 2 → d i ≡ patched c x 1 c i) → ((i : ℕ) → degree + 2 ≤ i → d i ≡ c i)
    → IsProduct d (degree + 1) v
unfolding place_of
product_more c d degree x p u v h at len is changed rest =
    let e : suc (degree + 1) ≡ suc (suc degree) = omega arith in
    let place_is : power 2 (11 * length u) ≡ x = ap (λ (k : ℕ). power 2 (11 * k)) len ∙ sym at in
    record {
      listed =
          ap (listing d 0) e
          ∙ listing-same d (patched c x 1 c) 0 (suc (suc degree)) (λ k lt. changed k (omega arith))
          ∙ sym (listing-linear c x degree (h.beyond (suc degree) (omega arith)))
          ∙ ap (times_linear x) h.listed
          ∙ ap (λ (y : ℕ). times_linear y (locator_of u)) (sym place_is)
          ∙ ap locator_of (sym is);
      beyond = λ i lt. rest i (omega arith) ∙ h.beyond i (omega arith);
    }

pub product_same : (c : ℕ → ℕ) (degree : ℕ) (u v : List ℕ) → IsProduct c degree u → v ≡ 0 ∷ u → IsProduct c degree v
product_same c degree u v h is = record { listed = h.listed ∙ ap locator_of (sym is); beyond = h.beyond }

pub product_start : (c : ℕ → ℕ) → c 0 ≡ 1 → ((i : ℕ) → 1 ≤ i → c i ≡ 0) → (u : List ℕ) → u ≡ [] → IsProduct c 0 u
product_start c one none u e = record {
  listed = ap (λ (y : ℕ). y ∷ []) one ∙ ap locator_of (sym e);
  beyond = λ i h. none i (omega arith);
}

-- ---- from place p to place p + 1, the flag of which stands p from the end

at_next : (fs : List Bool) (p : ℕ) → p < length fs → length fs - (p + 1) ≡ length fs - 1 - p
at_next fs p h = omega arith

after_next : (fs : List Bool) (p : ℕ) → p < length fs → suc (length fs - 1 - p) ≡ length fs - p
after_next fs p h = omega arith

pub marks_next : (fs : List Bool) (p : ℕ) (b : Bool) → p < length fs → get_or fs (length fs - 1 - p) false ≡ b
    → marks (drop (length fs - (p + 1)) fs) ≡ cond b 1 0 ∷ marks (drop (length fs - p) fs)
marks_next fs p b h e =
    ap (λ (j : ℕ). marks (drop j fs)) (at_next fs p h) ∙ marks_step fs (length fs - 1 - p) b (omega arith) e
    ∙ ap (λ (j : ℕ). cond b 1 0 ∷ marks (drop j fs)) (after_next fs p h)

pub count_next : (fs : List Bool) (p : ℕ) (b : Bool) → p < length fs → get_or fs (length fs - 1 - p) false ≡ b
    → count_erased (drop (length fs - (p + 1)) fs) ≡ cond b 1 0 + count_erased (drop (length fs - p) fs)
count_next fs p b h e =
    ap (λ (j : ℕ). count_erased (drop j fs)) (at_next fs p h) ∙ count_step fs (length fs - 1 - p) b (omega arith) e
    ∙ ap (λ (j : ℕ). cond b 1 0 + count_erased (drop j fs)) (after_next fs p h)

pub length_next : (fs : List Bool) (p : ℕ) → p ≤ length fs → length (marks (drop (length fs - p) fs)) ≡ p
length_next fs p h = omega (arith, length-marks (drop (length fs - p) fs), length-drop fs (length fs - p) (omega arith))

pub degree_below : (fs : List Bool) (p d count : ℕ) → p < length fs → d ≡ count_erased (drop (length fs - p) fs)
    → count ≡ count_erased fs
    → get_or fs (length fs - 1 - p) false ≡ true → d + 1 ≤ count
degree_below fs p d count h e f g = omega (arith, count_next fs p true h g, count_drop fs (length fs - (p + 1)))

-- a factor more costs a step for each coefficient
pub cost_more : (a b i d : ℕ) → 2 * a ≡ 2 * i + d * (d + 1) → b ≡ a + (d + 1) → 2 * b ≡ 2 * i + (d + 1) * (d + 1 + 1)
cost_more a b i d h l = grind arith

pub product_as : (xs ys : List Gf) (d d' : ℕ) (u : List ℕ) → xs ≡ ys → d ≡ d' → IsProduct (entry ys) d' u
    → IsProduct (entry xs) d u
product_as xs ys d d' u e f h =
    subst (λ (k : ℕ). IsProduct (entry xs) k u) (sym f)
    (subst (λ (zs : List Gf). IsProduct (entry zs) d' u) (sym e) h)

pub cost_as : (a b i d d' : ℕ) → a ≡ b → d ≡ d' → 2 * b ≡ 2 * i + d' * (d' + 1) → 2 * a ≡ 2 * i + d * (d + 1)
cost_as a b i d d' e f h = rw (e, f) h

pub none_dropped : (fs : List Bool) → drop (length fs - 0) fs ≡ []
none_dropped fs = let e : length fs - 0 ≡ length fs = omega arith in ap (λ (j : ℕ). drop j fs) e ∙ drop_all fs
