-- The octets of a window, part by part.
use Rattle.std.proofs.Common.{◌≡◌, ℕ, ◌≤◌, refl, sym, ◌∙◌, append_assoc, List, ◌++◌, Bool, Option, length}
use Rattle.std.specs.Prelude.{flat_map}
use Rattle.tm_conv.specs.declared.rates.Rate.{Rate}
use Rattle.tm_conv.specs.Path.{steps_size}
use Rattle.tm_viterbi.specs.WindowBlock.{WindowBlock}
use Rattle.tm_cert_file.specs.Window.{header_octets, column_octets}
use Rattle.tm_cert_file.specs.Certificate.{AreColumns, IsCertified}
use Rattle.tm_cert_file.proofs.ColumnLists.{HasColumn, columns-all}

-- the parts are the window's
pub certified-parts : (rate : Rate) (invert : Bool) (starts : Option ℕ) (t : ℕ) (octets : List ℕ)
    (block : WindowBlock) (head bits : List ℕ) (columns : List (List ℕ))
    → head ≡ header_octets block.steps block.kept block.start block.metric → bits ≡ block.bits
    → AreColumns rate invert starts t block.steps octets columns
    → IsCertified rate invert starts t octets block (head ++ (bits ++ (octets ++ flat_map column_octets columns)))
certified-parts rate invert starts t octets block head bits columns is_head are_bits are = record {
  columns = columns;
  are_columns = are;
  is_text = (λ i. is_head i ++ (are_bits i ++ (octets ++ flat_map column_octets columns)))
      ∙ sym (append_assoc (header_octets block.steps block.kept block.start block.metric) block.bits _)
      ∙ sym (append_assoc (header_octets block.steps block.kept block.start block.metric ++ block.bits) octets
      (flat_map column_octets columns));
}

-- there is a window
pub certified-some : HasColumn → (rate : Rate) (invert : Bool) (starts : Option ℕ) (t : ℕ) (octets : List ℕ)
    (block : WindowBlock) → steps_size rate t block.steps ≤ length octets
    → (text : List ℕ) × IsCertified rate invert starts t octets block text
certified-some exists rate invert starts t octets block there =
    let all = columns-all exists rate invert starts t block.steps octets there in (
      _,
      certified-parts rate invert starts t octets block (header_octets block.steps block.kept block.start
          block.metric) block.bits all.0 refl refl all.1,
    )
