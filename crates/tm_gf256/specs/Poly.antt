-- Words and polynomials over the field, as lists of coefficients, that of the highest power first.
use Rattle.std.specs.Prelude.{ℕ, zero, suc, ◌+◌, ◌-◌, List, [], ◌∷◌, length, map, bit_xor, slice_index_or}
use Rattle.std.specs.List.{range_with_len}
use Rattle.std.proofs.Common.{get_or}
use Rattle.tm_gf256.specs.Field.{plus, times, power}
use Rattle.tm_gf256.specs.declared.element.Gf.{Gf}

-- the elements as numbers
abbrev pub numbers : List Gf → List ℕ
numbers [] = []
numbers (c ∷ cs) = c.0 ∷ numbers cs

-- the number of element i, 0 past the end
abbrev pub entry : List Gf → ℕ → ℕ
entry cs i = (get_or cs i (record { 0 = 0 })).0

-- the value of a polynomial at x: the sum of each coefficient times its power of x
abbrev pub value_at : List ℕ → ℕ → ℕ
value_at [] x = 0
value_at (c ∷ cs) x = bit_xor (times c (power x (length cs))) (value_at cs x)

-- the sum of a_i b_j over i + j = m and i below k
unfoldable pub convolution : List ℕ → List ℕ → ℕ → ℕ → ℕ
convolution a b m zero = 0
convolution a b m (suc k) =
    plus (convolution a b m k) (times (slice_index_or a k 0) (slice_index_or b (m - k) 0))

-- the product of two polynomials: its coefficient number m is the sum of a_i b_j over all i + j = m
unfoldable pub product : List ℕ → List ℕ → List ℕ
product a b = map (λ m. convolution a b m (suc m)) (range_with_len 0 (length a + length b - 1))

-- n copies of an element added up
unfoldable pub copies : ℕ → ℕ → ℕ
copies zero c = 0
copies (suc n) c = plus (copies n c) c

-- the derivative of a polynomial: the term c x^n becomes n c x^(n-1)
unfoldable pub derivative : List ℕ → List ℕ
derivative [] = []
derivative (c ∷ []) = []
derivative (c ∷ d ∷ ds) = copies (suc (length ds)) c ∷ derivative (d ∷ ds)
