-- The command `bits`: the bits that are received, eight an octet, and what is said of them.
use Rattle.std.specs.Prelude.{◌≡◌, ◌⊎◌, ℕ, Bool, false, List, [], ◌∷◌, ◌++◌, length}
use Rattle.tm_base.specs.Bits.{octets_of}
use Rattle.tm_base.specs.Handed.{Handed, Phase, Item, items_of}
use Rattle.tm_base.specs.Written.{Wrote, WrotePrefix}
use Rattle.tm_config.specs.Configuration.{Configuration}
use Rattle.tm_driver.specs.Lines.{phase_text}
use Rattle.tm_driver.specs.Meaning.{Meaning, Output, Taken}
use Rattle.tm_viterbi.specs.WindowBlock.{WindowBlock}
use Rattle.tm_inner.specs.Inner.{inner_bits, reported_slips}
use Rattle.tm_inner.specs.Handing.{AreHanded, AreHandedDue}
use Rattle.tm_path_commands.specs.Lines.{bits_end_text}

-- zeros that fill an octet which a bit or more has begun, and come to none by themselves
abbrev pub fill : List Bool
fill = false ∷ false ∷ false ∷ false ∷ false ∷ false ∷ false ∷ []

-- bits packed to octets, with zeros after them to a whole octet
abbrev pub filled_octets : List Bool → List ℕ
filled_octets bits = octets_of (bits ++ fill)

-- the line of the phase, where it was handed over
abbrev pub phase_line : List (Handed WindowBlock) → List ℕ
phase_line [] = []
phase_line (Phase skip cost ∷ handed) = phase_text skip cost ++ phase_line handed
phase_line (Item block ∷ handed) = phase_line handed

-- the received bits of what was handed over of octets
abbrev pub bits_of_handed : Configuration → List ℕ → List (Handed WindowBlock) → List Bool
bits_of_handed c octets handed = inner_bits c octets (items_of handed)

-- what is said after the bits: how often octets were dropped, where the phase is followed, the
-- windows, the bits, and the octets after the last step
abbrev pub end_line : Configuration → List ℕ → List (Handed WindowBlock) → ℕ → List ℕ
end_line c octets handed left =
    bits_end_text (reported_slips c (items_of handed)) (length (items_of handed))
    (length (bits_of_handed c octets handed)) left

-- all bits of the octets, and what is said of them
pub record IsBits (c : Configuration) (octets : List ℕ) (output : Output) : Type 0 where
  pub handed : List (Handed WindowBlock)
  pub left : ℕ
  pub are_handed : AreHanded c octets handed left
  pub out : output.out ≡ filled_octets (bits_of_handed c octets handed)
  pub notes : output.notes ≡ phase_line handed ++ end_line c octets handed left

-- the whole octets of the bits that are due, whatever octets follow, and the line of the phase once
-- it is settled
pub record IsBitsDue (c : Configuration) (octets : List ℕ) (output : Output) : Type 0 where
  pub handed : List (Handed WindowBlock)
  pub are_due : AreHandedDue c octets handed
  pub out : output.out ≡ octets_of (bits_of_handed c octets handed)
  pub notes : output.notes ≡ phase_line handed

-- The line of the phase comes before the first octet, and the end after the last: the output took
-- nothing, and the notes a part of that line; or the notes took just that line; or the output took
-- all.
abbrev pub AreBitsInOrder : (line : List ℕ) → Output → Taken → Type 0
AreBitsInOrder line output taken =
    (Wrote taken.out taken.out_now [] × WrotePrefix taken.notes taken.notes_now line)
    ⊎ Wrote taken.notes taken.notes_now line
    ⊎ Wrote taken.out taken.out_now output.out

-- what it writes; no input is partial, and nothing is bad
abbrev pub bits_meaning : Configuration → Meaning
bits_meaning c = record {
  is_output = IsBits c;
  is_due = IsBitsDue c;
  is_partial = λ octets. ⊥;
  is_bad = λ octets. ⊥;
  is_in_order = λ octets output taken. (handed : List (Handed WindowBlock)) × (left : ℕ)
      × AreHanded c octets handed left × AreBitsInOrder (phase_line handed) output taken;
  stops_at_bad = ⊥;
}
