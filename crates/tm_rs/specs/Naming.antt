-- When a locator names the symbols of an error pattern.
use Rattle.std.specs.Prelude.{ℕ, ◌≡◌, ◌<◌, ◌≤◌, List, length}
use Rattle.tm_gf256.specs.declared.element.Gf.{Gf}
use Rattle.tm_gf256.specs.Poly.{numbers, value_at}
use Rattle.tm_rs_code.specs.Code.{place_of, longest_word, most_coefficients, most_correctable}
use Rattle.tm_rs_code.specs.ErrorValues.{IsLocated}

-- the locator is that of an error pattern with these syndromes, and has this value at the element
-- of place p
pub record NamesSymbol (e : ℕ) (locator : List Gf) (syndromes : ℕ → ℕ) (p found : ℕ) : Type 0 where
  pub most : e ≤ most_correctable
  pub some : 1 ≤ length locator
  pub few : length locator ≤ most_coefficients
  pub inside : p < longest_word
  pub value : found ≡ value_at (numbers locator) (place_of p)
  pub located : (u : List ℕ) × (w : List ℕ) × IsLocated e syndromes (numbers locator) u w
