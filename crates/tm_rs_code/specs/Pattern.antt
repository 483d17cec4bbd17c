-- Error patterns: the words of few symbols that have given syndromes, and their locators.
use Rattle.std.specs.Prelude.{◌≡◌, ◌<◌, ◌≤◌, ◌*◌, ℕ, zero, suc, Bool, true, false, List, [], ◌∷◌, ◌==◌, if◌then◌else◌, length, bit_xor}
use Rattle.tm_gf256.specs.Field.{times}
use Rattle.tm_gf256.specs.Poly.{value_at}
use Rattle.tm_rs_code.specs.Code.{AreElements, place_of, root, weight}

-- w is an error pattern of a word of length n: at most e of its symbols are not 0, and its
-- syndromes are s
pub record IsPattern (e n : ℕ) (s : ℕ → ℕ) (w : List ℕ) : Type 0 where
  pub size : length w ≡ n
  pub elements : AreElements w
  pub few : weight w ≤ e
  pub meets : (k : ℕ) → k < 2 * e → value_at w (root e k) ≡ s k

-- the same of the first `count` syndromes alone, of which there are two for each symbol that is not
-- 0
pub record Explains (e count n : ℕ) (s : ℕ → ℕ) (w : List ℕ) : Type 0 where
  pub size : length w ≡ n
  pub elements : AreElements w
  pub few : 2 * weight w ≤ count
  pub meets : (k : ℕ) → k < count → value_at w (root e k) ≡ s k

-- a ∷ q times 1 + x z, without the first coefficient a; the power 0 of z stands first
abbrev pub carry : ℕ → ℕ → List ℕ → List ℕ
carry x a [] = times x a ∷ []
carry x a (q ∷ qs) = bit_xor q (times x a) ∷ carry x q qs

-- q times 1 + x z
abbrev pub times_linear : ℕ → List ℕ → List ℕ
times_linear x [] = []
times_linear x (q ∷ qs) = q ∷ carry x q qs

-- the locator of a word: the product of 1 + X z over the elements X of the places that are not 0
abbrev pub locator_of : List ℕ → List ℕ
locator_of [] = 1 ∷ []
locator_of (c ∷ cs) = (if c == 0 then locator_of cs
    else times_linear (place_of (length cs)) (locator_of cs))

abbrev pub add_place : Bool → ℕ → List ℕ → List ℕ
add_place true x xs = x ∷ xs
add_place false x xs = xs

-- the elements of the places below n at which the polynomial p is 0
abbrev pub roots_below : List ℕ → ℕ → List ℕ
roots_below p zero = []
roots_below p (suc n) = add_place (value_at p (place_of n) == 0) (place_of n) (roots_below p n)
