-- The values of the wrong symbols, by division of the locator.
use Rattle.std.specs.Prelude.{◌≡◌, ◌<◌, ◌≤◌, ◌*◌, ℕ, zero, suc, List, [], ◌∷◌, ◌==◌, if◌then◌else◌, length, bit_xor}
use Rattle.tm_gf256.specs.Field.{times}
use Rattle.tm_gf256.specs.Poly.{value_at}
use Rattle.tm_rs_code.specs.Code.{AreElements, root, weight, longest_word}
use Rattle.tm_rs_code.specs.Pattern.{locator_of}

-- the symbol at place p, the coefficient of the power p
abbrev pub symbol_at : List ℕ → ℕ → ℕ
symbol_at [] p = 0
symbol_at (c ∷ cs) p = if length cs == p then c else symbol_at cs p

-- Horner's values at x of the first i coefficients of c
abbrev pub divided : (ℕ → ℕ) → ℕ → ℕ → ℕ
divided c x zero = 0
divided c x (suc i) = bit_xor (c i) (times x (divided c x i))

-- coefficient i of the quotient of c by the polynomial that is 0 at x alone
abbrev pub quotient_at : (ℕ → ℕ) → ℕ → ℕ → ℕ
quotient_at c x i = divided c x (suc i)

-- w is 0 wherever u is
abbrev pub Covers : List ℕ → List ℕ → Type 0
Covers [] ws = Unit {0}
Covers (u ∷ us) [] = Unit {0}
Covers (u ∷ us) (w ∷ ws) = (u ≡ 0 → w ≡ 0) × Covers us ws

-- w is a word with the syndromes s whose symbols are 0 but at the places of the locator, which is
-- that of u
pub record IsLocated (e : ℕ) (s : ℕ → ℕ) (locator u w : List ℕ) : Type 0 where
  pub locator_is : locator ≡ locator_of u
  pub size : length w ≡ length u
  pub short : length u ≤ longest_word
  pub elements : AreElements w
  pub covered : Covers u w
  pub few : weight u ≤ 2 * e
  pub meets : (k : ℕ) → k < 2 * e → value_at w (root e k) ≡ s k
