-- A sum of m powers with different places that vanishes at m powers in a row is empty of values.
use Rattle.std.proofs.Common.{◌≡◌, ◌<◌, ◌≢◌, ℕ, zero, suc, ◌+◌, List, [], ◌∷◌, length, refl, ap, sym, ◌∙◌, arith, add-zero as add_zero}
use Rattle.std.specs.Prelude.{bit_xor}
use Rattle.std.specs.Int.Bits.{xor_zero_r, xor_self}
use Rattle.tm_gf256.specs.Field.{times, power}
use Rattle.tm_gf256.proofs.ProductLaw.{middle}
use Rattle.tm_gf256.proofs.Ring.{times-lt, times-comm, times-assoc, times-plus, plus-times, times-zero, zero-times, times-cancel, power-lt, power-nonzero, plus_apart, plus-lt}

-- a value at a place
pub record Term : Type 0 where
  pub value : ℕ
  pub place : ℕ

-- the sum of the values times the powers j of their places
abbrev pub power_sum : ℕ → List Term → ℕ
power_sum j [] = 0
power_sum j (t ∷ ts) = bit_xor (times t.value (power t.place j)) (power_sum j ts)

-- each value times the difference of its place and x
abbrev pub scaled : ℕ → List Term → List Term
scaled x [] = []
scaled x (t ∷ ts) = record { value = times t.value (bit_xor t.place x); place = t.place } ∷ scaled x ts

abbrev pub AreTerms : List Term → Type 0
AreTerms [] = Unit {0}
AreTerms (t ∷ ts) = (t.value < 256) × (t.place < 256) × (t.place ≢ 0) × AreTerms ts

abbrev pub ApartFrom : ℕ → List Term → Type 0
ApartFrom x [] = Unit {0}
ApartFrom x (t ∷ ts) = (t.place ≢ x) × ApartFrom x ts

abbrev pub AreApart : List Term → Type 0
AreApart [] = Unit {0}
AreApart (t ∷ ts) = ApartFrom t.place ts × AreApart ts

abbrev pub AreZero : List Term → Type 0
AreZero [] = Unit {0}
AreZero (t ∷ ts) = (t.value ≡ 0) × AreZero ts

-- ---- sums

pub swap_factors : (a b c : ℕ) → times a (times b c) ≡ times b (times a c)
swap_factors a b c = sym (times-assoc a b c) ∙ ap (λ (y : ℕ). times y c) (times-comm a b) ∙ times-assoc b a c

-- (v (p + x)) q is v (q p) + x (v q)
pub split_factor : (v p x q : ℕ) → times (times v (bit_xor p x)) q ≡ bit_xor (times v (times q p)) (times x (times v q))
split_factor v p x q =
    times-assoc v (bit_xor p x) q ∙ ap (times v) (plus-times p x q) ∙ times-plus v (times p q) (times x q)
    ∙ ap (λ (y : ℕ). bit_xor (times v y) (times v (times x q))) (times-comm p q)
    ∙ ap (bit_xor (times v (times q p))) (swap_factors v x q)

pub power_sum-scaled : (x : ℕ) (ts : List Term) (j : ℕ) → power_sum j (scaled x ts)
    ≡ bit_xor (power_sum (suc j) ts) (times x (power_sum j ts))
unfolding power
power_sum-scaled x [] j = sym (times-zero x)
power_sum-scaled x (t ∷ ts) j =
    ap (λ (y : ℕ). bit_xor y (power_sum j (scaled x ts))) (split_factor t.value t.place x (power t.place j))
    ∙ ap (bit_xor (bit_xor (times t.value (times (power t.place j) t.place))
    (times x (times t.value (power t.place j))))) (power_sum-scaled x ts j)
    ∙ middle (times t.value (times (power t.place j) t.place)) (times x (times t.value (power t.place j)))
    (power_sum (suc j) ts) (times x (power_sum j ts))
    ∙ ap (bit_xor (bit_xor (times t.value (times (power t.place j) t.place)) (power_sum (suc j) ts)))
    (sym (times-plus x (times t.value (power t.place j)) (power_sum j ts)))

pub power_sum-zero : (j : ℕ) (ts : List Term) → AreZero ts → power_sum j ts ≡ 0
power_sum-zero j [] z = refl
power_sum-zero j (t ∷ ts) z =
    ap (λ (y : ℕ). bit_xor (times y (power t.place j)) (power_sum j ts)) z.0
    ∙ ap (λ (y : ℕ). bit_xor y (power_sum j ts)) (zero-times (power t.place j)) ∙ power_sum-zero j ts z.1

-- ---- the terms of a scaled list

length-scaled : (x : ℕ) (ts : List Term) → length (scaled x ts) ≡ length ts
length-scaled x [] = refl
length-scaled x (t ∷ ts) = ap suc (length-scaled x ts)

AreTerms-scaled : (x : ℕ) (ts : List Term) → AreTerms ts → AreTerms (scaled x ts)
AreTerms-scaled x [] h = tt
AreTerms-scaled x (t ∷ ts) h = (times-lt t.value (bit_xor t.place x), h.1, h.2, AreTerms-scaled x ts h.3)

ApartFrom-scaled : (x y : ℕ) (ts : List Term) → ApartFrom y ts → ApartFrom y (scaled x ts)
ApartFrom-scaled x y [] h = tt
ApartFrom-scaled x y (t ∷ ts) h = (h.0, ApartFrom-scaled x y ts h.1)

AreApart-scaled : (x : ℕ) (ts : List Term) → AreApart ts → AreApart (scaled x ts)
AreApart-scaled x [] h = tt
AreApart-scaled x (t ∷ ts) h = (ApartFrom-scaled x t.place ts h.0, AreApart-scaled x ts h.1)

AreZero_of_scaled : (x : ℕ) (ts : List Term) → x < 256 → AreTerms ts → ApartFrom x ts → AreZero (scaled x ts)
    → AreZero ts
AreZero_of_scaled x [] l h a z = tt
AreZero_of_scaled x (t ∷ ts) l h a z = (
  times-cancel (bit_xor t.place x) t.value (plus-lt t.place x h.1 l) h.0 (λ e. a.0 (plus_apart t.place x e))
      (times-comm (bit_xor t.place x) t.value ∙ z.0),
  AreZero_of_scaled x ts l h.3 a.1 z.1,
)

-- ---- the law

-- two sums that vanish leave the head's term
rest_of : (a s : ℕ) → bit_xor a s ≡ 0 → s ≡ a
rest_of a s e = sym (plus_apart a s e)

step_vanishes : (v x j s s' : ℕ) → bit_xor (times v (power x j)) s ≡ 0 → bit_xor (times v (power x (suc j))) s' ≡ 0
    → bit_xor s' (times x s) ≡ 0
unfolding power
step_vanishes v x j s s' e e' =
    ap (λ (y : ℕ). bit_xor y (times x s)) (rest_of (times v (times (power x j) x)) s' e')
    ∙ ap (λ (y : ℕ). bit_xor (times v (times (power x j) x)) (times x y)) (rest_of (times v (power x j)) s e)
    ∙ ap (λ (y : ℕ). bit_xor y (times x (times v (power x j))))
    (ap (times v) (times-comm (power x j) x) ∙ swap_factors v x (power x j))
    ∙ xor_self (times x (times v (power x j)))

pub vanish : (n : ℕ) (ts : List Term) → length ts ≡ n → AreTerms ts → AreApart ts
    → (b : ℕ) → ((k : ℕ) → k < n → power_sum (b + k) ts ≡ 0) → AreZero ts
vanish zero [] len h a b s = tt
vanish zero (t ∷ ts) len h a b s = absurd (omega arith)
vanish (suc n) [] len h a b s = absurd (omega arith)
vanish (suc n) (t ∷ ts) len h a b s =
    let rest : AreZero ts =
    AreZero_of_scaled t.place ts h.1 h.3 a.0
    (vanish n (scaled t.place ts) (length-scaled t.place ts ∙ (omega arith)) (AreTerms-scaled t.place ts h.3)
    (AreApart-scaled t.place ts a.1) b
    (λ k l. power_sum-scaled t.place ts (b + k)
    ∙ step_vanishes t.value t.place (b + k) (power_sum (b + k) ts) (power_sum (suc (b + k)) ts)
    (s k (omega arith)) (ap (λ (y : ℕ). power_sum y (t ∷ ts)) (omega arith) ∙ s (suc k) (omega arith)))) in (
      times-cancel (power t.place b) t.value (power-lt t.place b) h.0 (power-nonzero t.place b h.1 h.2)
          (times-comm (power t.place b) t.value
          ∙ sym (xor_zero_r (times t.value (power t.place b)))
          ∙ ap (bit_xor (times t.value (power t.place b))) (sym (power_sum-zero b ts rest))
          ∙ ap (λ (y : ℕ). power_sum y (t ∷ ts)) (sym (add_zero b)) ∙ s 0 (omega arith)),
      rest,
    )
