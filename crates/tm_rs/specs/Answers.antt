-- What the decoder's answers say: the word that is left is the codeword.
use Rattle.std.specs.Prelude.{ℕ, ◌≡◌, Bool, List, length}
use Rattle.tm_gf256.specs.declared.element.Gf.{Gf}
use Rattle.tm_gf256.specs.Poly.{numbers}
use Rattle.tm_rs_code.specs.Erasures.{IsNearestErased, NearestErased}
use Rattle.tm_rs_code.specs.Erasures.NearestErased.{Fixed as FixedErased, Beyond as BeyondErased}
use Rattle.tm_rs_code.specs.Nearest.{IsNearest, Nearest}
use Rattle.tm_rs_code.specs.Nearest.Nearest.{Fixed as FixedWord, Beyond as BeyondWord}
use Rattle.tm_rs.specs.declared.answers.Answer.{Answer}
use Rattle.tm_rs.specs.declared.answers.Answer.TheVariants.{Fixed, Beyond}
use Rattle.tm_rs.specs.declared.answers.ErasedAnswer.{ErasedAnswer}
use Rattle.tm_rs.specs.declared.answers.ErasedAnswer.TheVariants.{Fixed as FixedBoth, Beyond as BeyondBoth}

-- what is nearest, by an answer and the word that it left
abbrev pub found : Answer → List ℕ → Nearest
found (Fixed d) c = FixedWord c d
found Beyond c = BeyondWord

-- the same with erased places
abbrev pub found_erased : ErasedAnswer → List ℕ → NearestErased
found_erased (FixedBoth a b) c = FixedErased c a b
found_erased BeyondBoth c = BeyondErased

-- a call that decodes a word leaves the nearest codeword, or the word as it was
pub record Repairs (e repair : ℕ) (before now : List Gf) (answer : Answer) : Type 0 where
  pub nearest : IsNearest e repair (numbers before) (found answer (numbers now))
  pub unchanged : answer ≡ Beyond → now ≡ before
  pub same_size : length now ≡ length before

-- the same with erased places
pub record RepairsErased (e repair : ℕ) (erased : List Bool) (before now : List Gf)
    (answer : ErasedAnswer) : Type 0 where
  pub nearest : IsNearestErased e repair erased (numbers before) (found_erased answer (numbers now))
  pub unchanged : answer ≡ BeyondBoth → now ≡ before
  pub same_size : length now ≡ length before
