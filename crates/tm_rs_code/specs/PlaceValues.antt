-- The values of a polynomial at the places of a word.
use Rattle.std.specs.Prelude.{◌≡◌, ◌<◌, ℕ, List, length, slice_index_or}
use Rattle.tm_gf256.specs.Poly.{value_at}
use Rattle.tm_rs_code.specs.Code.{place_of}

-- entry p is the polynomial's value at the element of place p, for each p below n
abbrev pub AreValues : List ℕ → ℕ → List ℕ → Type 0
AreValues poly n values = (p : ℕ) → p < n → slice_index_or values p 0 ≡ value_at poly (place_of p)

-- the same of a list with room for every place
pub record ArePlaceValues (poly : List ℕ) (n : ℕ) (octets : List ℕ) : Type 0 where
  pub size : length octets ≡ 256
  pub values : AreValues poly n octets
