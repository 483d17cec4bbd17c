-- The shortest recurrence, one term of the sequence after another. Coefficients are functions from indexes.
use Rattle.std.proofs.Common.{◌≡◌, ◌<◌, ◌≤◌, ℕ, zero, suc, ◌+◌, ◌-◌, length, refl, ap, sym, ◌∙◌, arith, inl, inr, add-zero, add-suc}
use Rattle.std.specs.Prelude.{bit_xor}
use Rattle.std.specs.Int.Bits.{xor_zero_r, xor_assoc, xor_self}
use Rattle.std.proofs.lemmas.Bool.{cases_eq, lt-ltb, le-ltb}
use Rattle.tm_gf256.specs.Field.{times}
use Rattle.tm_gf256.proofs.Ring.{times-lt, times-assoc, times-plus, plus-times, times-zero, zero-times, plus-lt}
use Rattle.tm_gf256.proofs.ProductLaw.{middle}
use Rattle.tm_rs_code.specs.Code.{AreElements}
use Rattle.tm_rs_code.specs.Recurrence.{discrepancy, listing, Generates, Failed, shifted, patched}
use Rattle.tm_rs_code.proofs.Windows.{window}

pub length-listing : (c : ℕ → ℕ) (i n : ℕ) → length (listing c i n) ≡ n
length-listing c i zero = refl
length-listing c i (suc n) = ap suc (length-listing c (suc i) n)

pub AreElements-listing : (c : ℕ → ℕ) → ((i : ℕ) → c i < 256) → (i n : ℕ) → AreElements (listing c i n)
AreElements-listing c h i zero = tt
AreElements-listing c h i (suc n) = (h i, AreElements-listing c h (suc i) n)

discrepancy-split : (c s : ℕ → ℕ) (n i m k : ℕ) → suc k ≡ m + i + n
    → discrepancy c s k (i + n) ≡ bit_xor (discrepancy c s k i) (window (listing c i n) s m)
discrepancy-split c s zero i m k e = ap (discrepancy c s k) (add-zero i) ∙ sym (xor_zero_r (discrepancy c s k i))
discrepancy-split c s (suc n) i m k e =
    let here : k - i ≡ m + length (listing c (suc i) n) = omega (arith, length-listing c (suc i) n) in
    let e' : suc k ≡ m + suc i + n = omega arith in
    let same : i + suc n ≡ suc i + n = omega arith in
    ap (discrepancy c s k) same
    ∙ discrepancy-split c s n (suc i) m k e'
    ∙ xor_assoc (discrepancy c s k i) (times (c i) (s (k - i))) (window (listing c (suc i) n) s m)
    ∙ ap (λ (j : ℕ). bit_xor (discrepancy c s k i) (bit_xor (times (c i) (s j)) (window (listing c (suc i) n) s m)))
    here

-- a discrepancy is a window
pub discrepancy-window : (c s : ℕ → ℕ) (l m : ℕ) → discrepancy c s (m + l) (suc l) ≡ window (listing c 0 (suc l)) s m
discrepancy-window c s l m =
    let e : suc (m + l) ≡ m + 0 + suc l = omega arith in
    let whole : suc l ≡ 0 + suc l = omega arith in
    ap (discrepancy c s (m + l)) whole ∙ discrepancy-split c s (suc l) 0 m (m + l) e

-- ---- sums, multiples and shifts

pub discrepancy-sum : (c c' s : ℕ → ℕ) (q k j : ℕ)
    → discrepancy (λ i. bit_xor (c i) (times q (c' i))) s k j
    ≡ bit_xor (discrepancy c s k j) (times q (discrepancy c' s k j))
discrepancy-sum c c' s q k zero = sym (times-zero q)
discrepancy-sum c c' s q k (suc j) =
    ap (λ (y : ℕ). bit_xor y (times (bit_xor (c j) (times q (c' j))) (s (k - j)))) (discrepancy-sum c c' s q k j)
    ∙ ap (bit_xor (bit_xor (discrepancy c s k j) (times q (discrepancy c' s k j))))
    (plus-times (c j) (times q (c' j)) (s (k - j)) ∙ ap (bit_xor (times (c j) (s (k - j))))
    (times-assoc q (c' j) (s (k - j))))
    ∙ middle (discrepancy c s k j) (times q (discrepancy c' s k j)) (times (c j) (s (k - j)))
    (times q (times (c' j) (s (k - j))))
    ∙ ap (bit_xor (bit_xor (discrepancy c s k j) (times (c j) (s (k - j)))))
    (sym (times-plus q (discrepancy c' s k j) (times (c' j) (s (k - j)))))

pub shifted_low : (m : ℕ) (c : ℕ → ℕ) (i : ℕ) → i < m → shifted m c i ≡ 0
shifted_low m c i h = rw (lt-ltb i m h)

pub shifted_high : (m : ℕ) (c : ℕ → ℕ) (i : ℕ) → m ≤ i → shifted m c i ≡ c (i - m)
shifted_high m c i h = rw (le-ltb i m h)

discrepancy-low : (m : ℕ) (c s : ℕ → ℕ) (k j : ℕ) → j ≤ m → discrepancy (shifted m c) s k j ≡ 0
discrepancy-low m c s k zero h = refl
discrepancy-low m c s k (suc j) h =
    ap (λ (y : ℕ). bit_xor y (times (shifted m c j) (s (k - j)))) (discrepancy-low m c s k j (omega arith))
    ∙ ap (λ (y : ℕ). times y (s (k - j))) (shifted_low m c j (omega arith)) ∙ zero-times (s (k - j))

pub discrepancy-shifted : (m : ℕ) (c s : ℕ → ℕ) (k j : ℕ) → discrepancy (shifted m c) s k (m + j)
    ≡ discrepancy c s (k - m) j
discrepancy-shifted m c s k zero =
    ap (discrepancy (shifted m c) s k) (add-zero m) ∙ discrepancy-low m c s k m (omega arith)
discrepancy-shifted m c s k (suc j) =
    let place : (m + j) - m ≡ j = omega arith in
    let from : k - (m + j) ≡ (k - m) - j = omega arith in
    ap (discrepancy (shifted m c) s k) (add-suc m j)
    ∙ ap (λ (y : ℕ). bit_xor y (times (shifted m c (m + j)) (s (k - (m + j))))) (discrepancy-shifted m c s k j)
    ∙ ap (λ (y : ℕ). bit_xor (discrepancy c s (k - m) j) (times y (s (k - (m + j)))))
    (shifted_high m c (m + j) (omega arith) ∙ ap c place)
    ∙ ap (λ (i : ℕ). bit_xor (discrepancy c s (k - m) j) (times (c j) (s i))) from

-- what is 0 from l on adds nothing
discrepancy-stable : (c s : ℕ → ℕ) (l k : ℕ) → ((i : ℕ) → l ≤ i → c i ≡ 0) → (j : ℕ)
    → discrepancy c s k (l + j) ≡ discrepancy c s k l
discrepancy-stable c s l k h zero = ap (discrepancy c s k) (add-zero l)
discrepancy-stable c s l k h (suc j) =
    ap (discrepancy c s k) (add-suc l j)
    ∙ ap (λ (y : ℕ). bit_xor (discrepancy c s k (l + j)) (times y (s (k - (l + j))))) (h (l + j) (omega arith))
    ∙ ap (bit_xor (discrepancy c s k (l + j))) (zero-times (s (k - (l + j))))
    ∙ xor_zero_r (discrepancy c s k (l + j)) ∙ discrepancy-stable c s l k h j

pub discrepancy_from : (c s : ℕ → ℕ) (l k n : ℕ) → ((i : ℕ) → l ≤ i → c i ≡ 0) → l ≤ n
    → discrepancy c s k n ≡ discrepancy c s k l
discrepancy_from c s l k n h le =
    let e : l + (n - l) ≡ n = omega arith in
    ap (discrepancy c s k) (sym e) ∙ discrepancy-stable c s l k h (n - l)

-- ---- a recurrence of length l for the first n terms

-- where the term n does not fit
pub step : (c b s : ℕ → ℕ) (l l_b l' n n_b m d d_b q : ℕ) → Generates c l s n → Failed b l_b s n_b d_b
    → discrepancy c s n (suc l) ≡ d → times q d_b ≡ d
    → n ≡ n_b + m → 0 < m → l + l_b ≡ n_b + 1 → l ≤ l' → n + 1 ≤ l + l'
    → Generates (patched c q m b) l' s (suc n)
step c b s l l_b l' n n_b m d d_b q g f dn qd nm pos both grow far = record {
  first =
      ap (λ (y : ℕ). bit_xor (c 0) (times q y)) (shifted_low m b 0 pos) ∙ ap (bit_xor (c 0)) (times-zero q)
      ∙ xor_zero_r (c 0) ∙ g.first;
  beyond = λ i h.
      ap (λ (y : ℕ). bit_xor y (times q (shifted m b i))) (g.beyond i (omega arith))
      ∙ ap (times q) (shifted_high m b i (omega arith) ∙ f.beyond (i - m) (omega arith)) ∙ times-zero q;
  meets = λ k low high.
      let whole : suc l' ≡ m + (suc l' - m) = omega arith in
      let ofc : discrepancy c s k (suc l') ≡ discrepancy c s k (suc l) =
      discrepancy_from c s (suc l) k (suc l') g.beyond (omega arith) in
      let ofb : discrepancy (shifted m b) s k (suc l') ≡ discrepancy b s (k - m) (suc l_b) =
      ap (discrepancy (shifted m b) s k) whole ∙ discrepancy-shifted m b s k (suc l' - m)
      ∙ discrepancy_from b s (suc l_b) (k - m) (suc l' - m) f.beyond (omega arith) in
      discrepancy-sum c (shifted m b) s q k (suc l')
      ∙ ap (λ (y : ℕ). bit_xor y (times q (discrepancy (shifted m b) s k (suc l')))) ofc
      ∙ ap (λ (y : ℕ). bit_xor (discrepancy c s k (suc l)) (times q y)) ofb
      ∙ elim (cases_eq k n) [
        | inl e ↦
            let at : k - m ≡ n_b = omega arith in
            ap (λ (y : ℕ). bit_xor (discrepancy c s y (suc l)) (times q (discrepancy b s (k - m) (suc l_b)))) e
            ∙ ap (λ (y : ℕ). bit_xor y (times q (discrepancy b s (k - m) (suc l_b)))) dn
            ∙ ap (λ (y : ℕ). bit_xor d (times q (discrepancy b s y (suc l_b)))) at
            ∙ ap (λ (y : ℕ). bit_xor d (times q y)) f.failed ∙ ap (bit_xor d) qd ∙ xor_self d
        | inr ne ↦
            ap (λ (y : ℕ). bit_xor y (times q (discrepancy b s (k - m) (suc l_b))))
            (g.meets k (omega arith) (omega arith))
            ∙ ap (times q) (f.met (k - m) (omega arith) (omega arith)) ∙ times-zero q
      ];
}

-- where the length grows, what was is what failed
pub now_failed : (c s : ℕ → ℕ) (l n d : ℕ) → Generates c l s n → discrepancy c s n (suc l) ≡ d → Failed c l s n d
now_failed c s l n d g e = record { beyond = g.beyond; met = g.meets; failed = e }

-- the first term that is not 0
pub step_first : (c b s : ℕ → ℕ) (q n : ℕ) → Generates c 0 s n → ((i : ℕ) → 1 ≤ i → b i ≡ 0)
    → Generates (patched c q (suc n) b) (suc n) s (suc n)
step_first c b s q n g h = record {
  first =
      ap (λ (y : ℕ). bit_xor (c 0) (times q y)) (shifted_low (suc n) b 0 (omega arith))
      ∙ ap (bit_xor (c 0)) (times-zero q) ∙ xor_zero_r (c 0) ∙ g.first;
  beyond = λ i l.
      ap (λ (y : ℕ). bit_xor y (times q (shifted (suc n) b i))) (g.beyond i (omega arith))
      ∙ ap (times q) (shifted_high (suc n) b i (omega arith) ∙ h (i - suc n) (omega arith)) ∙ times-zero q;
  meets = λ k low high. absurd (omega arith);
}

pub patched_low : (c b : ℕ → ℕ) (q m i : ℕ) → i < m → patched c q m b i ≡ c i
patched_low c b q m i h =
    ap (λ (y : ℕ). bit_xor (c i) (times q y)) (shifted_low m b i h) ∙ ap (bit_xor (c i)) (times-zero q)
    ∙ xor_zero_r (c i)

pub patched_high : (c b : ℕ → ℕ) (q m i : ℕ) → m ≤ i → patched c q m b i ≡ bit_xor (c i) (times q (b (i - m)))
patched_high c b q m i h = ap (λ (y : ℕ). bit_xor (c i) (times q y)) (shifted_high m b i h)

pub patched-lt : (c b : ℕ → ℕ) (q m i : ℕ) → c i < 256 → patched c q m b i < 256
patched-lt c b q m i h = plus-lt (c i) (times q (shifted m b i)) h (times-lt q (shifted m b i))

pub discrepancy-lt : (c s : ℕ → ℕ) (k j : ℕ) → discrepancy c s k j < 256
discrepancy-lt c s k zero = omega arith
discrepancy-lt c s k (suc j) =
    plus-lt (discrepancy c s k j) (times (c j) (s (k - j))) (discrepancy-lt c s k j) (times-lt (c j) (s (k - j)))
