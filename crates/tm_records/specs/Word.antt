-- The command `word`: a word that is given in hexadecimal, and what is nearest to it.
use Rattle.std.specs.Prelude.{◌≡◌, ℕ, ◌+◌, ◌*◌, ◌/◌, ◌%◌, ◌==◌, ◌&&◌, Bool, if◌then◌else◌, nat_le, List, [], ◌++◌, length, map, codes, decimal, Option, Some, None}
use Rattle.std.specs.List.{list_all}
use Rattle.std.specs.Result.{result_unwrap_or}
use Rattle.hex.specs.Hex.{is_hex_digit, decode_of, encode_lower}
use Rattle.tm_base.specs.Written.{Wrote}
use Rattle.tm_config.specs.Configuration.{Configuration, correctable, is_uncoded}
use Rattle.tm_driver.specs.Meaning.{Meaning}
use Rattle.tm_driver.specs.Lines.{line_end}
use Rattle.tm_gf256.specs.Octet.{sent_octet, element_of}
use Rattle.tm_rs_code.specs.Nearest.{IsNearest}
use Rattle.tm_rs_code.specs.Nearest.Nearest.{Beyond as BeyondWord}
use Rattle.tm_rs_code.specs.Code.{longest_word}
use Rattle.tm_rs.specs.Answers.{found}
use Rattle.tm_rs.specs.declared.answers.Answer.{Answer}
use Rattle.tm_rs.specs.declared.answers.Answer.TheVariants.{Fixed, Beyond}
use Rattle.tm_records.specs.declared.word_command.WordRefusal.{WordRefusal}
use Rattle.tm_records.specs.declared.word_command.WordRefusal.TheVariants.{Code, Word, Hex}

-- the bytes are two for each symbol of a word of a length that the code has
abbrev pub fits_code : ℕ → ℕ → Bool
fits_code e bytes =
    (bytes % 2 == 0) && (nat_le (2 * e + 1) (bytes / 2) && nat_le (bytes / 2) longest_word)

-- the first reason to refuse the text of a word, or none: no outer code, another number of bytes
-- than that of a word, or a byte that is no hexadecimal digit
abbrev pub word_refusal : Configuration → List ℕ → Option WordRefusal
word_refusal c text =
    if is_uncoded c.code then Some Code
    else if fits_code (correctable c.code) (length text) then
    if list_all is_hex_digit text then None else Some Hex
    else Some Word

-- the reason that the line gives
abbrev pub word_reason : WordRefusal → List ℕ
word_reason Code = codes "code"
word_reason Word = codes "word"
word_reason Hex = codes "hex"

-- the octets of a text in hexadecimal
abbrev pub octets_of_hex : List ℕ → List ℕ
octets_of_hex text = result_unwrap_or (decode_of text) []

-- the word, as elements, whose octets stand in the text
abbrev pub word_of : Configuration → List ℕ → List ℕ
word_of c text = map (element_of c.basis) (octets_of_hex text)

-- how many symbols were wrong, and the octets of the codeword; or that no codeword is near
abbrev pub word_text : Answer → List ℕ → List ℕ
word_text (Fixed distance) octets =
    codes "fixed " ++ decimal distance ++ codes " " ++ encode_lower octets ++ line_end
word_text Beyond octets = codes "beyond" ++ line_end

-- the line of the codeword that is nearest to the word within the repair bound, in the basis, or of
-- none
pub record IsWordLine (c : Configuration) (text line : List ℕ) : Type 0 where
  pub answer : Answer
  pub codeword : List ℕ
  pub nearest : IsNearest (correctable c.code) c.repair (word_of c text) (found answer codeword)
  pub is_line : line ≡ word_text answer (map (sent_octet c.basis) codeword)

-- no codeword is within the repair bound of the word
abbrev pub IsBeyond : Configuration → List ℕ → Type 0
IsBeyond c text = IsNearest (correctable c.code) c.repair (word_of c text) BeyondWord

-- The line goes to the output, whatever octets there are: the command reads none, so nothing is due
-- before their end, and they are never partial. It writes no notes.
abbrev pub word_meaning : (text : List ℕ) → Configuration → Meaning
word_meaning text c = record {
  is_output = λ octets output. IsWordLine c text output.out × (output.notes ≡ []);
  is_due = λ octets output. ⊥;
  is_partial = λ octets. ⊥;
  is_bad = λ octets. IsBeyond c text;
  is_in_order = λ octets output taken. Wrote taken.notes taken.notes_now [];
  stops_at_bad = ⊥;
}
