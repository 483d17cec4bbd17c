-- Linear recurrences over the syndromes. Coefficients and terms are functions of their index.
use Rattle.std.specs.Prelude.{◌≡◌, ◌<◌, ◌≤◌, ◌-◌, ℕ, zero, suc, List, [], ◌∷◌, nat_lt, if◌then◌else◌, bit_xor}
use Rattle.tm_gf256.specs.Field.{times}

-- the sum of the products of c i and s (k - i) over the i below j
abbrev pub discrepancy : (ℕ → ℕ) → (ℕ → ℕ) → ℕ → ℕ → ℕ
discrepancy c s k zero = 0
discrepancy c s k (suc j) = bit_xor (discrepancy c s k j) (times (c j) (s (k - j)))

-- the n values c i, c (i + 1) and so on
abbrev pub listing : (ℕ → ℕ) → ℕ → ℕ → List ℕ
listing c i zero = []
listing c i (suc n) = c i ∷ listing c (suc i) n

-- c is a recurrence of length l that holds for the first n terms of s
pub record Generates (c : ℕ → ℕ) (l : ℕ) (s : ℕ → ℕ) (n : ℕ) : Type 0 where
  pub first : c 0 ≡ 1
  pub beyond : (i : ℕ) → suc l ≤ i → c i ≡ 0
  pub meets : (k : ℕ) → l ≤ k → k < n → discrepancy c s k (suc l) ≡ 0

-- b is a recurrence of length l that held before the term n and failed there, by d
pub record Failed (b : ℕ → ℕ) (l : ℕ) (s : ℕ → ℕ) (n d : ℕ) : Type 0 where
  pub beyond : (i : ℕ) → suc l ≤ i → b i ≡ 0
  pub met : (k : ℕ) → l ≤ k → k < n → discrepancy b s k (suc l) ≡ 0
  pub failed : discrepancy b s n (suc l) ≡ d

-- c moved on by m
abbrev pub shifted : ℕ → (ℕ → ℕ) → ℕ → ℕ
shifted m c i = if nat_lt i m then 0 else c (i - m)

-- c and q times b, moved on by m
abbrev pub patched : (ℕ → ℕ) → ℕ → ℕ → (ℕ → ℕ) → ℕ → ℕ
patched c q m b i = bit_xor (c i) (times q (shifted m b i))
