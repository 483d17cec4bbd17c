-- The command `erased`: records of words with erased symbols, a line for what is nearest to each,
-- and at the end how many octets are left over.
use Rattle.std.specs.Prelude.{◌≡◌, ◌⊎◌, ℕ, Bool, true, false, List, [], ◌++◌, map, flat_map, codes, decimal}
use Rattle.std.specs.List.{list_any}
use Rattle.hex.specs.Hex.{encode_lower}
use Rattle.tm_base.specs.Written.{Wrote}
use Rattle.tm_config.specs.Configuration.{Configuration, correctable, word_length}
use Rattle.tm_driver.specs.Lines.{left_over_text, line_end}
use Rattle.tm_driver.specs.Meaning.{Meaning}
use Rattle.tm_gf256.specs.declared.basis.Basis.{Basis}
use Rattle.tm_gf256.specs.Octet.{sent_octet}
use Rattle.tm_rs_code.specs.Erasures.{NearestErased}
use Rattle.tm_rs_code.specs.Erasures.NearestErased.{Fixed, Beyond}
use Rattle.tm_rs.specs.declared.answers.ErasedAnswer.{ErasedAnswer}
use Rattle.tm_rs.specs.declared.answers.ErasedAnswer.TheVariants.{Fixed as FixedBoth, Beyond as BeyondBoth}
use Rattle.tm_records.specs.declared.coding.Coding.{Coding}
use Rattle.tm_records.specs.Records.{AreNearest, AreNearestDue, left_over}

-- what the words of the records are decoded by
abbrev pub coding_of : Configuration → Coding
coding_of c = record {
  params = record { e = correctable c.code; n = word_length c };
  basis = c.basis;
  repair = c.repair;
}

-- the line of a record by its answer: how many places were wrong that are not erased, how many of
-- the erased ones differ, and the octets of the codeword; or that no codeword is near
abbrev pub erased_text : ErasedAnswer → List ℕ → List ℕ
erased_text (FixedBoth wrong differing) octets =
    codes "fixed " ++ decimal wrong ++ codes " " ++ decimal differing ++ codes " "
    ++ encode_lower octets ++ line_end
erased_text BeyondBoth octets = codes "beyond" ++ line_end

-- the line of what is nearest to a record's word, with the codeword in this basis
abbrev pub nearest_text : Basis → NearestErased → List ℕ
nearest_text basis (Fixed codeword wrong differing) =
    erased_text (FixedBoth wrong differing) (map (sent_octet basis) codeword)
nearest_text basis Beyond = erased_text BeyondBoth []

-- the lines of what is nearest to records
abbrev pub nearest_lines : Basis → List NearestErased → List ℕ
nearest_lines basis nearest = flat_map (nearest_text basis) nearest

-- no codeword is near
abbrev pub is_beyond : NearestErased → Bool
is_beyond (Fixed codeword wrong differing) = false
is_beyond Beyond = true

-- the lines of all whole records
pub record AreLines (c : Configuration) (octets lines : List ℕ) : Type 0 where
  pub nearest : List NearestErased
  pub are_nearest : AreNearest (coding_of c) octets nearest
  pub are_lines : lines ≡ nearest_lines c.basis nearest

-- the lines of the records in whole batches
pub record AreLinesDue (c : Configuration) (octets lines : List ℕ) : Type 0 where
  pub nearest : List NearestErased
  pub are_nearest : AreNearestDue (coding_of c) octets nearest
  pub are_lines : lines ≡ nearest_lines c.basis nearest

-- no codeword is near to the word of one of the records
abbrev pub HasBeyond : Configuration → List ℕ → Type 0
HasBeyond c octets =
    (nearest : List NearestErased) × AreNearest (coding_of c) octets nearest
    × (list_any is_beyond nearest ≡ true)

-- how many octets follow the last whole record
abbrev pub record_rest : Configuration → List ℕ → ℕ
record_rest c octets = left_over (coding_of c) octets

-- The lines of all whole records go to the output, those of whole batches before the end of the
-- input is known. The notes say what is left over, and that last. An input of whole records is bad
-- where a word is uncorrectable.
abbrev pub erased_meaning : Configuration → Meaning
erased_meaning c = record {
  is_output = λ octets output.
      AreLines c octets output.out × (output.notes ≡ left_over_text (record_rest c octets));
  is_due = λ octets output. AreLinesDue c octets output.out × (output.notes ≡ []);
  is_partial = λ octets. record_rest c octets ≡ 0 → ⊥;
  is_bad = λ octets. (record_rest c octets ≡ 0) × HasBeyond c octets;
  is_in_order = λ octets output taken.
      Wrote taken.notes taken.notes_now [] ⊎ Wrote taken.out taken.out_now output.out;
  stops_at_bad = ⊥;
}
