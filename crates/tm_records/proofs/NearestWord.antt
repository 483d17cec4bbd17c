-- Words in hexadecimal, and the lines of their nearest codewords.
use Rattle.std.proofs.Common.{◌≡◌, ◌≢◌, ℕ, ◌*◌, ◌/◌, ◌%◌, ◌≤◌, ◌<◌, true, false, List, [], length, map, if◌then◌else◌, Option, Some, None, Result, Ok, Err, refl, sym, ap, ◌∙◌, subst, arith}
use Rattle.std.specs.Prelude.{MatchResult, IsOk}
use Rattle.std.specs.List.{list_all}
use Rattle.std.specs.Result.{result_unwrap_or}
use Rattle.std.proofs.lemmas.Bool.{false_from_ne_true}
use Rattle.std.proofs.lemmas.Bool.Decides.{nat_tests}
use Rattle.std.proofs.lemmas.List.Sums.{AllPass-from_list_all, list_all-from_AllPass}
use Rattle.hex.specs.Hex.{is_hex_digit, decode_sized}
use Rattle.hex.specs.declared.error.FromHexError.{FromHexError}
use Rattle.hex.proofs.HexLemmas.{IsOk-written, IsOk-decode_sized, decode_of-digits, decode_sized-twice}
use Rattle.tm_base.specs.Written.{Wrote}
use Rattle.tm_config.specs.Configuration.{Configuration, correctable, is_uncoded}
use Rattle.tm_config.specs.declared.values.OuterCode.{OuterCode}
use Rattle.tm_config.specs.declared.values.OuterCode.TheVariants.{Rs16, Rs8, Uncoded}
use Rattle.tm_driver.specs.Meaning.{WroteOutput, taken_by}
use Rattle.tm_driver.proofs.SinkTexts.{wrote-nothing}
use Rattle.tm_gf256.specs.Octet.{sent_octet, element_of}
use Rattle.tm_rs_code.specs.Nearest.{IsNearest}
use Rattle.tm_rs.specs.Answers.{found}
use Rattle.tm_rs.specs.declared.answers.Answer.{Answer}
use Rattle.tm_rs.specs.declared.answers.Answer.TheVariants.{Fixed, Beyond}
use Rattle.tm_records.specs.Word.{octets_of_hex, word_meaning, word_refusal, word_of, word_text, IsWordLine, IsBeyond}
use Rattle.tm_records.specs.declared.word_command.WordRefusal.{WordRefusal}
use Rattle.tm_records.specs.declared.word_command.WordRefusal.TheVariants.{Code}

-- what writing the octets of a text answers
abbrev pub Written : List ℕ → ℕ → Result Unit FromHexError → List ℕ → Type 0
Written text count answer octets = MatchResult (decode_sized text count) (λ bytes. (answer ≡ Ok tt) × (octets ≡ bytes))
    (λ e. answer ≡ Err e)

-- ---- the text that is refused

pub all-digits : (text : List ℕ) (count : ℕ) (octets : List ℕ) (answer : Result Unit FromHexError)
    → Written text count answer octets → IsOk answer → list_all is_hex_digit text ≡ true
all-digits text count octets answer written ok =
    list_all-from_AllPass is_hex_digit text ((IsOk-decode_sized text count).0
    ((IsOk-written (decode_sized text count) answer octets written).0 ok)).1

pub not_all-digits : (text : List ℕ) (count : ℕ) (octets : List ℕ) (e : FromHexError) → length text ≡ 2 * count
    → Written text count (Err e) octets → list_all is_hex_digit text ≡ false
not_all-digits text count octets e long written =
    false_from_ne_true (list_all is_hex_digit text) (λ is.
    let fails : IsOk {T = Unit {0}} (Err e) = (IsOk-written (decode_sized text count) (Err e) octets written).1
    ((IsOk-decode_sized text count).1 (long, AllPass-from_list_all is_hex_digit text is)) in
    cc fails)

-- ---- the text that is accepted

-- what an accepted text is
pub record IsAcceptedText (c : Configuration) (text : List ℕ) : Type 0 where
  pub code : c.code ≢ Uncoded
  pub even : length text % 2 ≡ 0
  pub some : 2 * correctable c.code < length text / 2
  pub most : length text / 2 ≤ 255
  pub digits : list_all is_hex_digit text ≡ true

not-refused : (code : OuterCode) (rest : Option WordRefusal) → (if is_uncoded code then Some Code else rest) ≡ None
    → (code ≢ Uncoded) × (rest ≡ None)
not-refused Rs16 rest is = (λ e. cc, is)
not-refused Rs8 rest is = (λ e. cc, is)
not-refused Uncoded rest is = absurd cc

pub accepted-text : (c : Configuration) (text : List ℕ) → word_refusal c text ≡ None → IsAcceptedText c text
accepted-text c text accepted =
    let coded = not-refused c.code _ accepted in
    let fits = coded.1 in record {
      code = coded.0;
      even = grind (arith, nat_tests);
      some = grind (arith, nat_tests);
      most = grind (arith, nat_tests);
      digits = grind (arith, nat_tests);
    }

-- its octets are read
pub octets-read : (text : List ℕ) (count : ℕ) (octets : List ℕ) (answer : Result Unit FromHexError)
    → length text ≡ 2 * count → list_all is_hex_digit text ≡ true
    → Written text count answer octets → octets ≡ octets_of_hex text
octets-read text count octets answer long digits written =
    let some = decode_of-digits text (omega arith) (AllPass-from_list_all is_hex_digit text digits) in
    let sized : decode_sized text count ≡ Ok some.0 = decode_sized-twice text count long ∙ some.1 in
    (rw sized at written).1 ∙ ap (λ (r : Result (List ℕ) FromHexError). result_unwrap_or r []) (sym some.1)

-- ---- the line

-- what repairing the octets of a word has made of them
abbrev pub Repaired : Configuration → List ℕ → Answer → List ℕ → Type 0
Repaired c octets answer now = (codeword : List ℕ)
    × IsNearest (correctable c.code) c.repair (map (element_of c.basis) octets) (found answer codeword)
    × (now ≡ map (sent_octet c.basis) codeword)

pub repaired-text : (c : Configuration) (text octets now : List ℕ) (answer : Answer) → word_refusal c text ≡ None
    → (list_all is_hex_digit text ≡ true → octets ≡ octets_of_hex text)
    → Repaired c octets answer now → Repaired c (octets_of_hex text) answer now
repaired-text c text octets now answer accepted read repaired =
    subst (λ (l : List ℕ). Repaired c l answer now) (read (accepted-text c text accepted).digits) repaired

pub nearest-line : (c : Configuration) (text now : List ℕ) (answer : Answer)
    → Repaired c (octets_of_hex text) answer now → IsWordLine c text (word_text answer now)
nearest-line c text now answer near =
    record { answer = answer; codeword = near.0; nearest = near.1; is_line = ap (word_text answer) near.2 }

-- all of it was written
pub line-written : (c : Configuration) (text now : List ℕ) (answer : Answer)
    → Repaired c (octets_of_hex text) answer now → (taken taken_now noted : Option (List ℕ))
    → Wrote taken taken_now (word_text answer now)
    → WroteOutput (word_meaning text c) [] (taken_by taken taken_now noted noted)
line-written c text now answer near taken taken_now noted wrote = (
  record { out = word_text answer now; notes = [] },
  (nearest-line c text now answer near, refl),
  record { out = wrote; notes = wrote-nothing noted },
)

-- a word is uncorrectable where it is answered so
pub is_beyond : (c : Configuration) (text now : List ℕ) (answer : Answer)
    → Repaired c (octets_of_hex text) answer now → answer ≡ Beyond → IsBeyond c text
is_beyond c text now answer near is =
    subst (λ (a : Answer). IsNearest (correctable c.code) c.repair (word_of c text) (found a near.0)) is near.1

pub not_beyond : (c : Configuration) (text now : List ℕ) (answer : Answer) (d : ℕ)
    → Repaired c (octets_of_hex text) answer now → answer ≡ Fixed d → IsBeyond c text → ⊥
not_beyond c text now answer d near is beyond =
    let fixed : IsNearest (correctable c.code) c.repair (word_of c text) (found (Fixed d) near.0) = subst
    (λ (a : Answer). IsNearest (correctable c.code) c.repair (word_of c text) (found a near.0)) is near.1 in
    absurd (omega (arith, beyond near.0 fixed.0, fixed.1, fixed.2))
