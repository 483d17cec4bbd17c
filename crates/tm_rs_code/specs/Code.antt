-- The Reed-Solomon codes (CCSDS 131.0-B, Reed-Solomon Coding). A word is a list of elements as
-- numbers, the coefficient of the highest power first and the check symbols last. Virtual fill is
-- in no list.
use Rattle.std.specs.Prelude.{◌≡◌, ◌⊎◌, ◌<◌, ◌≤◌, ◌+◌, ◌-◌, ◌*◌, ℕ, zero, suc, Bool, List, [], ◌∷◌, ◌++◌, ◌==◌, if◌then◌else◌, length, take, map, find, unwrap_or}
use Rattle.std.specs.List.{range_with_len, list_all, flat_map}
use Rattle.tm_gf256.specs.Field.{power}
use Rattle.tm_gf256.specs.Poly.{value_at}

-- the most symbols that a code corrects in a word
abbrev pub most_correctable : ℕ
most_correctable = 16

-- and the fewest, those of the other code
abbrev pub least_correctable : ℕ
least_correctable = 8

-- the numbers of symbols that the two codes correct in a word
abbrev pub IsStrength : ℕ → Type 0
IsStrength e = (e ≡ most_correctable) ⊎ (e ≡ least_correctable)

-- the most check symbols of a word, two for each of these, and the fewest
abbrev pub most_checks : ℕ
most_checks = 32

abbrev pub least_checks : ℕ
least_checks = 16

-- the most coefficients of a polynomial whose values at the places of a word are found: those of
-- the locator of as many places
abbrev pub most_coefficients : ℕ
most_coefficients = 33

-- the most symbols of a word
abbrev pub longest_word : ℕ
longest_word = 255

-- the lengths of a word with 2e check symbols
abbrev pub IsLength : ℕ → ℕ → Type 0
IsLength e n = (2 * e + 1 ≤ n) × (n ≤ longest_word)

-- what code a word belongs to: how many symbols it corrects, and the length of its words
pub record Code : Type 0 where
  pub e : ℕ
  pub n : ℕ

-- each number is an element
abbrev pub AreElements : List ℕ → Type 0
AreElements [] = Unit {0}
AreElements (c ∷ cs) = (c < 256) × AreElements cs

-- the element alpha^(11 p) of place p, whose symbol is the coefficient of the power p; alpha is 2
unfoldable pub place_of : ℕ → ℕ
place_of p = power 2 (11 * p)

-- root number k of the generator polynomial, alpha^(11 (128 - e + k))
abbrev pub root : ℕ → ℕ → ℕ
root e k = power 2 (11 * (128 - e + k))

-- the word's polynomial is 0 at each root of the generator polynomial
abbrev pub IsCodeword : ℕ → List ℕ → Type 0
IsCodeword e w = (k : ℕ) → k < 2 * e → value_at w (root e k) ≡ 0

-- the number of places where two words of one length differ
abbrev pub distance : List ℕ → List ℕ → ℕ
distance [] ys = 0
distance (x ∷ xs) [] = 0
distance (x ∷ xs) (y ∷ ys) = (if x == y then 0 else 1) + distance xs ys

-- the number of places where a word is not 0
abbrev pub weight : List ℕ → ℕ
weight [] = 0
weight (x ∷ xs) = (if x == 0 then 0 else 1) + weight xs

-- c is a codeword that begins with the information symbols and has 2e check symbols after them
pub record IsSystematic (e : ℕ) (info c : List ℕ) : Type 0 where
  pub elements : AreElements c
  pub codeword : IsCodeword e c
  pub size : length c ≡ length info + 2 * e
  pub begins : take (length info) c ≡ info

-- whether a word is a codeword
unfoldable pub is_codeword : ℕ → List ℕ → Bool
is_codeword e w = list_all (λ k. value_at w (root e k) == 0) (range_with_len 0 (2 * e))

-- all words of a length, in the order of a dictionary; no proof and no code computes them
unfoldable pub all_words : ℕ → List (List ℕ)
all_words zero = [] ∷ []
all_words (suc n) = flat_map (λ first. map (λ rest. first ∷ rest) (all_words n))
    (range_with_len 0 256)

-- the systematic codeword: the information symbols, then the first 2e symbols that make it a
-- codeword
unfoldable pub encode_word : ℕ → List ℕ → List ℕ
encode_word e info = info ++ unwrap_or (find makes_codeword (all_words (2 * e))) []
  where
    makes_codeword : List ℕ → Bool
    makes_codeword checks = is_codeword e (info ++ checks)
