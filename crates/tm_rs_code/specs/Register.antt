-- The shift register of the encoder, which divides by the generator polynomial.
use Rattle.std.specs.Prelude.{ℕ, List, [], ◌∷◌, ◌++◌, bit_xor}
use Rattle.tm_gf256.specs.Field.{times}

-- the sum of two words of one length
abbrev pub sums : List ℕ → List ℕ → List ℕ
sums [] ys = []
sums (x ∷ xs) [] = []
sums (x ∷ xs) (y ∷ ys) = bit_xor x y ∷ sums xs ys

-- each symbol times q
abbrev pub multiple : ℕ → List ℕ → List ℕ
multiple q [] = []
multiple q (c ∷ cs) = times q c ∷ multiple q cs

-- the register after one more symbol d, where 1 ∷ g is the generator polynomial
abbrev pub shift : List ℕ → ℕ → List ℕ → List ℕ
shift g d [] = []
shift g d (r ∷ rs) = sums (rs ++ 0 ∷ []) (multiple (bit_xor d r) g)
