-- The command `trace`: the symbol phase, where it is to be found, and the windows of the soft
-- decoder, a line each; where octets were dropped before a window, a line before its own says so.
use Rattle.std.specs.Prelude.{◌≡◌, ℕ, List, [], ◌∷◌, ◌++◌, length}
use Rattle.tm_base.specs.Handed.{Handed, Phase, Item, items_of}
use Rattle.tm_base.specs.Written.{Wrote}
use Rattle.tm_config.specs.Configuration.{Configuration}
use Rattle.tm_driver.specs.Lines.{phase_text}
use Rattle.tm_driver.specs.Meaning.{Meaning, Output}
use Rattle.tm_viterbi.specs.WindowBlock.{WindowBlock}
use Rattle.tm_inner.specs.Inner.{inner_bits}
use Rattle.tm_inner.specs.Handing.{AreHanded, AreHandedDue}
use Rattle.tm_path_commands.specs.declared.tally.Tally.{Tally}
use Rattle.tm_path_commands.specs.Lines.{block_text, no_blocks, tally_after, trace_end_text}

-- the line of the phase, and those of the windows, after the windows and bits that `was` counts
abbrev pub blocks_text : Tally → List (Handed WindowBlock) → List ℕ
blocks_text was [] = []
blocks_text was (Phase skip cost ∷ handed) = phase_text skip cost ++ blocks_text was handed
blocks_text was (Item block ∷ handed) = block_text was block
    ++ blocks_text (tally_after was block) handed

-- how many windows and bits these are with those before
abbrev pub tally_all : Tally → List (Handed WindowBlock) → Tally
tally_all was [] = was
tally_all was (Phase skip cost ∷ handed) = tally_all was handed
tally_all was (Item block ∷ handed) = tally_all (tally_after was block) handed

-- the trace of what was handed over, of `bits` bits, with `leftover` octets after the last step
abbrev pub trace_text : List (Handed WindowBlock) → (bits leftover : ℕ) → List ℕ
trace_text handed bits leftover = blocks_text no_blocks handed
    ++ trace_end_text (length (items_of handed)) bits leftover

-- the trace of all windows of the octets, which begins with their phase where it is to be found
pub record IsTrace (c : Configuration) (octets : List ℕ) (output : Output) : Type 0 where
  pub handed : List (Handed WindowBlock)
  pub left : ℕ
  pub are_handed : AreHanded c octets handed left
  pub out : output.out ≡ trace_text handed (length (inner_bits c octets (items_of handed))) left
  pub notes : output.notes ≡ []

-- the lines of what is due for the octets, whatever octets follow: of the phase, once it is
-- settled, and of all windows but the last
pub record IsTraceDue (c : Configuration) (octets : List ℕ) (output : Output) : Type 0 where
  pub handed : List (Handed WindowBlock)
  pub are_due : AreHandedDue c octets handed
  pub out : output.out ≡ blocks_text no_blocks handed
  pub notes : output.notes ≡ []

-- what it writes; no input is partial, and nothing is bad
abbrev pub trace_meaning : Configuration → Meaning
trace_meaning c = record {
  is_output = IsTrace c;
  is_due = IsTraceDue c;
  is_partial = λ octets. ⊥;
  is_bad = λ octets. ⊥;
  is_in_order = λ octets output taken. Wrote taken.notes taken.notes_now [];
  stops_at_bad = ⊥;
}
