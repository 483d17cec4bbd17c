-- The nearest codeword within a bound, without an algorithm.
use Rattle.std.specs.Prelude.{◌≡◌, ◌<◌, ◌≤◌, ◌&&◌, ℕ, Bool, true, false, List, length, nat_le}
use Rattle.std.specs.List.{list_any}
use Rattle.tm_rs_code.specs.Code.{AreElements, IsCodeword, all_words, distance, is_codeword}

-- what is nearest to a word: a codeword and its distance, or none within the bound
pub data Nearest : Type 0 where
  Fixed : (c : List ℕ) → (d : ℕ) → Nearest
  Beyond : Nearest

-- c is a codeword of n symbols
pub record IsCodewordOf (e n : ℕ) (c : List ℕ) : Type 0 where
  pub size : length c ≡ n
  pub elements : AreElements c
  pub codeword : IsCodeword e c

-- a codeword lies at distance d, within the bound, from the word w, and it is c; or none is so near
abbrev pub IsNearest : ℕ → ℕ → List ℕ → Nearest → Type 0
IsNearest e bound w (Fixed c d) = IsCodewordOf e (length w) c × (distance c w ≡ d) × (d ≤ bound)
IsNearest e bound w Beyond = (c : List ℕ) → IsCodewordOf e (length w) c → bound < distance c w

-- whether a codeword lies within the bound from the word w
unfoldable pub is_correctable : ℕ → ℕ → List ℕ → Bool
is_correctable e bound w =
    list_any (λ c. is_codeword e c && nat_le (distance c w) bound) (all_words (length w))

-- whether what is nearest is a codeword
abbrev pub is_fixed : Nearest → Bool
is_fixed (Fixed c d) = true
is_fixed Beyond = false
