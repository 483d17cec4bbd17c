-- What is answered, and what is left of the octets of a word.
use Rattle.std.specs.Prelude.{◌≡◌, ℕ, ◌+◌, ◌==◌, ℤ, pos, negsuc, Bool, not, List, map}
use Rattle.tm_gf256.specs.Octet.{sent_octet, element_of}
use Rattle.tm_gf256.specs.declared.basis.Basis.{Basis}
use Rattle.tm_rs_code.specs.Erasures.{NearestErased, IsNearestErased}
use Rattle.tm_rs_code.specs.Erasures.NearestErased.{Fixed as FixedErased, Beyond as BeyondErased}
use Rattle.tm_rs_code.specs.Nearest.{Nearest, IsNearest}
use Rattle.tm_rs_code.specs.Nearest.Nearest.{Fixed, Beyond}

-- the octets of the codeword and the number of symbols that were wrong; or the word and -1, where
-- no codeword is near
abbrev pub IsAnswer : Basis → List ℕ → Nearest → ℤ → List ℕ → Type 0
IsAnswer basis word (Fixed c d) answer left = (answer ≡ pos d) × (left ≡ map (sent_octet basis) c)
IsAnswer basis word Beyond answer left = (answer ≡ negsuc 0) × (left ≡ word)

-- the answer, and what is left, is that of what is nearest to the word within the repair bound
pub record IsRepaired (e : ℕ) (basis : Basis) (repair : ℕ) (word : List ℕ) (answer : ℤ)
    (left : List ℕ) : Type 0 where
  pub found : Nearest
  pub nearest : IsNearest e repair (map (element_of basis) word) found
  pub is_answer : IsAnswer basis word found answer left

-- the symbols that are erased: those whose flag is not 0
abbrev pub erased_by : List ℕ → List Bool
erased_by flags = map (λ flag. not (flag == 0)) flags

-- the same with erased symbols: the number of symbols that were wrong is that of erased ones and of
-- others together
abbrev pub IsAnswerErased : Basis → List ℕ → NearestErased → ℤ → List ℕ → Type 0
IsAnswerErased basis word (FixedErased c a b) answer left =
    (answer ≡ pos (a + b)) × (left ≡ map (sent_octet basis) c)
IsAnswerErased basis word BeyondErased answer left = (answer ≡ negsuc 0) × (left ≡ word)

-- the answer, and what is left, is that of what is nearest to the word with these flags
pub record IsRepairedErased (e : ℕ) (basis : Basis) (repair : ℕ) (flags word : List ℕ) (answer : ℤ)
    (left : List ℕ) : Type 0 where
  pub found : NearestErased
  pub nearest : IsNearestErased e repair (erased_by flags) (map (element_of basis) word) found
  pub is_answer : IsAnswerErased basis word found answer left
