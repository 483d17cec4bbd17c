-- The generator polynomials (CCSDS 131.0-B, Reed-Solomon Coding).
use Rattle.std.specs.Prelude.{◌≡◌, ◌<◌, ◌*◌, ℕ, List, ◌∷◌, length}
use Rattle.tm_gf256.specs.Poly.{value_at}
use Rattle.tm_rs_code.specs.Code.{root}

-- 1 ∷ g is the polynomial of degree 2e, the highest power first, that is 0 at each root of the code
pub record IsGenerator (e : ℕ) (g : List ℕ) : Type 0 where
  pub degree : length g ≡ 2 * e
  pub roots : (k : ℕ) → k < 2 * e → value_at (1 ∷ g) (root e k) ≡ 0
