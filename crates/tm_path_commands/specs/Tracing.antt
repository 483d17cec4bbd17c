-- What tracing gives of the octets that were read.
use Rattle.std.specs.Prelude.{◌≡◌, ℕ, List, [], ◌∷◌, ◌++◌, length}
use Rattle.tm_base.specs.Count.{raised_by}
use Rattle.tm_base.specs.Handed.{Handed, Phase, Item, items_of}
use Rattle.tm_config.specs.Accepted.{IsAccepted}
use Rattle.tm_config.specs.Configuration.{Configuration}
use Rattle.tm_driver.specs.Lines.{phase_text}
use Rattle.tm_driver.specs.Writing.{Text, Out}
use Rattle.tm_viterbi.specs.WindowBlock.{WindowBlock}
use Rattle.tm_inner.specs.Handing.{AreHanded}
use Rattle.tm_inner.specs.Inner.{inner_bits}
use Rattle.tm_inner.specs.InnerDecoding.{InnerDecoding}
use Rattle.tm_inner.specs.Receiving.{HasHanded}
use Rattle.tm_path_commands.specs.declared.tally.Tally.{Tally}
use Rattle.tm_path_commands.specs.declared.trace_command.WindowLines.{WindowLines}
use Rattle.tm_path_commands.specs.Lines.{block_text, no_blocks, trace_end_text}

-- the windows and the bits once this one was reported, too, each up to 2^64-1
abbrev pub counted_after : Tally → WindowBlock → Tally
counted_after was block =
    record { blocks = raised_by 1 was.blocks; bits = raised_by block.kept was.bits }

-- the line of the phase was given, or that of a window, which was counted
abbrev pub traced : {T : Type 0} → (T → Text → T → Type 0) → WindowLines T → Handed WindowBlock
    → WindowLines T → Type 0
traced took a (Phase skip cost) b = (b.texts.ghost_name ≡ a.texts.ghost_name)
    × took a.texts.now (Out (phase_text skip cost)) b.texts.now × (b.tally ≡ a.tally)
traced took a (Item block) b = (b.texts.ghost_name ≡ a.texts.ghost_name)
    × took a.texts.now (Out (block_text a.tally block)) b.texts.now
    × (b.tally ≡ counted_after a.tally block)

-- all lines, after the windows and bits that `was` counts, and what is counted then
abbrev pub lines_by : Tally → List (Handed WindowBlock) → List Text
lines_by was [] = []
lines_by was (Phase skip cost ∷ handed) = Out (phase_text skip cost) ∷ lines_by was handed
lines_by was (Item block ∷ handed) =
    Out (block_text was block) ∷ lines_by (counted_after was block) handed

abbrev pub counted_by : Tally → List (Handed WindowBlock) → Tally
counted_by was [] = was
counted_by was (Phase skip cost ∷ handed) = counted_by was handed
counted_by was (Item block ∷ handed) = counted_by (counted_after was block) handed

-- the decoder of a configuration was given these octets, and the lines of what is due for them were
-- given
pub record Traces (c : Configuration) (decoder : InnerDecoding) (tally : Tally) (octets : List ℕ)
    (texts : List Text) : Type 0 where
  pub accepted : IsAccepted c
  pub config : decoder.config ≡ c
  pub handed : List (Handed WindowBlock)
  pub stands : HasHanded decoder octets handed
  pub counted : tally ≡ counted_by no_blocks handed
  pub lines : texts ≡ lines_by no_blocks handed

-- the lines of all windows of these octets were given, and the end of the trace
pub record TracesAll (c : Configuration) (octets : List ℕ) (texts : List Text) : Type 0 where
  pub accepted : IsAccepted c
  pub handed : List (Handed WindowBlock)
  pub left : ℕ
  pub are_handed : AreHanded c octets handed left
  pub lines : texts ≡ lines_by no_blocks handed ++ Out (trace_end_text
      (counted_by no_blocks handed).blocks
      (length (inner_bits c octets (items_of handed))) left) ∷ []
