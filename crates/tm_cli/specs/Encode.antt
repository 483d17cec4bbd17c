-- The command `encode`: the symbols of the frames of its input, and how many octets are left over.
use Rattle.std.specs.Prelude.{◌≡◌, ◌⊎◌, ℕ, ◌%◌, List, [], length}
use Rattle.tm_base.specs.Written.{Wrote}
use Rattle.tm_config.specs.Configuration.{Configuration}
use Rattle.tm_channel.specs.Sent.{sent}
use Rattle.tm_driver.specs.Lines.{left_over_text}
use Rattle.tm_driver.specs.Meaning.{Meaning}

-- how many octets follow the last whole frame
abbrev pub left_over : Configuration → List ℕ → ℕ
left_over c octets = length octets % c.frame_length

-- The symbols go to the output. The notes say what is left over, and that last.
abbrev pub encode_meaning : Configuration → Meaning
encode_meaning c = record {
  is_output = λ octets output. output ≡ record {
    out = sent c octets;
    notes = left_over_text
        (left_over c octets);
  };
  is_due = λ octets output. output ≡ record { out = sent c octets; notes = [] };
  is_partial = λ octets. left_over c octets ≡ 0 → ⊥;
  is_bad = λ octets. ⊥;
  is_in_order = λ octets output taken. Wrote taken.notes taken.notes_now []
      ⊎ Wrote taken.out taken.out_now output.out;
  stops_at_bad = ⊥;
}
