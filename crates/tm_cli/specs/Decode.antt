-- The commands `decode` and `report`: the frames and the report of what is received of their input.
use Rattle.std.specs.Prelude.{◌≡◌, ℕ, List, [], ◌∷◌, ◌++◌, length}
use Rattle.tm_base.specs.Handed.{Handed, items_of}
use Rattle.tm_base.specs.Written.{Wrote}
use Rattle.tm_config.specs.Configuration.{Configuration}
use Rattle.tm_channel.specs.declared.totals.Totals.{Totals}
use Rattle.tm_channel.specs.Items.{ItemValue}
use Rattle.tm_channel.specs.Handing.{AreReceived, AreReceivedDue}
use Rattle.tm_driver.specs.Meaning.{Meaning, Taken}
use Rattle.tm_driver.specs.Texts.{StopsAt}
use Rattle.tm_cli.specs.Report.{bad, handed_item_text, items_text, items_end_text, report_text}
use Rattle.tm_cli.specs.Taken.{handed_frames}

-- the frames of what was received with these octets, and the report of it, which begins with their
-- phase where it is to be found
pub record IsDecoded (c : Configuration) (octets : List ℕ) (frames report : List ℕ) : Type 0 where
  pub handed : List (Handed ItemValue)
  pub totals : Totals
  pub are_received : AreReceived c octets handed totals
  pub are_frames : frames ≡ handed_frames handed
  pub is_report : report ≡ report_text handed totals

-- the frames and the lines of what is due for the octets, whatever octets come: of the phase, once
-- it is settled, and of items
pub record IsDecodedDue (c : Configuration) (octets : List ℕ) (frames lines : List ℕ) : Type 0 where
  pub handed : List (Handed ItemValue)
  pub are_due : AreReceivedDue c octets handed
  pub are_frames : frames ≡ handed_frames handed
  pub are_lines : lines ≡ items_text 0 handed

-- a codeblock that was received with these octets has an uncorrectable column
abbrev pub HasBad : Configuration → List ℕ → Type 0
HasBad c octets = (handed : List (Handed ItemValue)) × ((totals : Totals)
    × AreReceived c octets handed totals) × (bad (items_of handed) ≡ 0 → ⊥)

-- the frame of what is handed over next, and its line; after the last there is no frame, and the
-- report ends
abbrev pub next_frame : List (Handed ItemValue) → List ℕ
next_frame [] = []
next_frame (next ∷ rest) = handed_frames (next ∷ [])

abbrev pub next_line : (prefix rest : List (Handed ItemValue)) → Totals → List ℕ
next_line prefix [] totals = items_end_text (items_of prefix) totals
next_line prefix (next ∷ rest) totals = handed_item_text (length (items_of prefix)) next

-- The output took the frames of the first of what was handed over, and the notes their lines, and
-- no more but a part of what comes next: of the next frame or, once the output has taken that, of
-- its line. After the last this is the end of the report.
pub record AreInOrder (handed : List (Handed ItemValue)) (totals : Totals)
    (taken : Taken) : Type 0 where
  pub prefix : List (Handed ItemValue)
  pub rest : List (Handed ItemValue)
  pub split : handed ≡ prefix ++ rest
  pub stops : StopsAt (handed_frames prefix) (items_text 0 prefix) (next_frame rest)
      (next_line prefix rest totals) taken.out taken.out_now taken.notes taken.notes_now

-- `decode`: the frames go to the output and the report to the notes, the line of an item after its
-- frame.
abbrev pub decode_meaning : Configuration → Meaning
decode_meaning c = record {
  is_output = λ octets output. IsDecoded c octets output.out output.notes;
  is_due = λ octets output. IsDecodedDue c octets output.out output.notes;
  is_partial = λ octets. ⊥;
  is_bad = λ octets. HasBad c octets;
  is_in_order = λ octets output taken. (handed : List (Handed ItemValue)) × (totals : Totals)
      × AreReceived c octets handed totals × AreInOrder handed totals taken;
  stops_at_bad = ⊥;
}

-- `report`: the report goes to the output, and there are no notes.
abbrev pub report_meaning : Configuration → Meaning
report_meaning c = record {
  is_output = λ octets output. (frames : List ℕ) × IsDecoded c octets frames output.out
      × (output.notes ≡ []);
  is_due = λ octets output. (frames : List ℕ) × IsDecodedDue c octets frames output.out
      × (output.notes ≡ []);
  is_partial = λ octets. ⊥;
  is_bad = λ octets. HasBad c octets;
  is_in_order = λ octets output taken. Wrote taken.notes taken.notes_now [];
  stops_at_bad = ⊥;
}
