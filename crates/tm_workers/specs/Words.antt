-- What decoding makes of a word.
use Rattle.std.specs.Prelude.{◌≡◌, ℕ, Some, take, drop}
use Rattle.tm_gf256.specs.Poly.{numbers}
use Rattle.tm_rs_code.specs.Code.{Code}
use Rattle.tm_rs_code.specs.Nearest.{IsNearest}
use Rattle.tm_rs_code.specs.Erasures.{IsNearestErased}
use Rattle.tm_rs.specs.Answers.{found, found_erased}
use Rattle.tm_rs.specs.declared.answers.Answer.{Answer}
use Rattle.tm_rs.specs.declared.answers.Answer.TheVariants.{Beyond}
use Rattle.tm_rs.specs.declared.answers.ErasedAnswer.{ErasedAnswer}
use Rattle.tm_rs.specs.declared.answers.ErasedAnswer.TheVariants.{Beyond as BeyondBoth}
use Rattle.tm_workers.specs.declared.words.Word.{Word}
use Rattle.tm_workers.specs.declared.words.ErasedWord.{ErasedWord}

-- the first n symbols become the nearest codeword, or stay where none is near; the symbols after
-- them stay, and the answer stands in the word
pub record Decodes (code : Code) (repair : ℕ) (w w' : Word) : Type 0 where
  pub answer : Answer
  pub answered : w'.answer ≡ Some answer
  pub nearest : IsNearest code.e repair (numbers (take code.n w.symbols))
      (found answer (numbers (take code.n w'.symbols)))
  pub unchanged : answer ≡ Beyond → take code.n w'.symbols ≡ take code.n w.symbols
  pub after : drop code.n w'.symbols ≡ drop code.n w.symbols

-- the same with erased places, which stay as they were given
pub record DecodesErased (code : Code) (repair : ℕ) (w w' : ErasedWord) : Type 0 where
  pub answer : ErasedAnswer
  pub answered : w'.answer ≡ Some answer
  pub nearest : IsNearestErased code.e repair (take code.n w.erased)
      (numbers (take code.n w.symbols)) (found_erased answer (numbers (take code.n w'.symbols)))
  pub unchanged : answer ≡ BeyondBoth → take code.n w'.symbols ≡ take code.n w.symbols
  pub after : drop code.n w'.symbols ≡ drop code.n w.symbols
  pub erased : w'.erased ≡ w.erased
