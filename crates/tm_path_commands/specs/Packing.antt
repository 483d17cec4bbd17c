-- How far the bits of octets are packed, and given.
use Rattle.std.specs.Prelude.{◌≡◌, ℕ, ◌<◌, ◌==◌, Bool, List, [], ◌∷◌, ◌++◌, length, map, drop, take, Option, Some, None}
use Rattle.tm_base.specs.Bits.{AreOctets, bits_of}
use Rattle.tm_base.specs.Count.{raised_by}
use Rattle.tm_base.specs.Handed.{Handed, Item, Phase, items_of}
use Rattle.tm_base.specs.Takers.{HandedOver}
use Rattle.tm_config.specs.Accepted.{IsAccepted}
use Rattle.tm_config.specs.Configuration.{Configuration}
use Rattle.tm_conv.specs.declared.rates.Rate.{Rate}
use Rattle.tm_driver.specs.Lines.{phase_text}
use Rattle.tm_driver.specs.Writing.{Text, Note, notes_of, out_of}
use Rattle.tm_viterbi.specs.WindowBlock.{WindowBlock}
use Rattle.tm_inner.specs.Handing.{AreHanded}
use Rattle.tm_inner.specs.Inner.{plain_bits}
use Rattle.tm_inner.specs.InnerDecoding.{InnerDecoding}
use Rattle.tm_inner.specs.Receiving.{HasHanded}
use Rattle.tm_path_commands.specs.declared.bits_command.PackedWindows.{PackedWindows}
use Rattle.tm_path_commands.specs.Bits.{bits_of_handed, end_line, filled_octets, phase_line}

-- ---- further bits

-- Texts give the first whole octets of bits that were packed and further ones, and the others stay.
pub record Gives {T : Type 0} (took : T → Text → T → Type 0) (bits : List Bool) (taker : T)
    (texts : List Text) (more bits_now : List Bool) (taker_now : T) : Type 0 where
  pub handed : HandedOver took taker texts taker_now
  pub are_octets : AreOctets (out_of texts)
  pub all : bits_of (out_of texts) ++ bits_now ≡ bits ++ more

-- further bits are packed; what is given of them is for the output alone
pub record Packs {T : Type 0} (took : T → Text → T → Type 0) (bits : List Bool) (taker : T)
    (more bits_now : List Bool) (taker_now : T) : Type 0 where
  pub texts : List Text
  pub gives : Gives took bits taker texts more bits_now taker_now
  pub silent : notes_of texts ≡ []

-- the bits of further octets after the first `skip` ones, where there is no inner code
abbrev pub plain_more : Option Rate → Configuration → (skip : ℕ) → List ℕ → List Bool
plain_more None c skip octets = drop skip (plain_bits c octets)
plain_more (Some rate) c skip octets = []

-- ---- what a decoder hands over

-- both are of one packer and one taker of texts
abbrev pub IsSameLoan : {T : Type 0} → PackedWindows T → PackedWindows T → Type 0
IsSameLoan a b = (b.packer.ghost_name ≡ a.packer.ghost_name)
    × (b.texts.ghost_name ≡ a.texts.ghost_name)

-- the line of the phase is given, or the bits that a window keeps are packed, and it is counted
abbrev pub packed : {T : Type 0} → (T → Text → T → Type 0) → PackedWindows T → Handed WindowBlock
    → PackedWindows T → Type 0
packed took a (Phase skip cost) b = IsSameLoan a b
    × took a.texts.now (Note (phase_text skip cost)) b.texts.now × (b.packer.now ≡ a.packer.now)
    × (b.windows ≡ a.windows)
packed took a (Item block) b = IsSameLoan a b
    × Packs took a.packer.now a.texts.now (map (λ bit. bit == 1) (take block.kept block.bits))
    b.packer.now b.texts.now × (b.windows ≡ raised_by 1 a.windows)

-- ---- what was given

-- the notes have just this line, and it comes before the first octet
pub record IsFirstNote (texts : List Text) (line : List ℕ) : Type 0 where
  pub first : List Text
  pub rest : List Text
  pub split : texts ≡ first ++ rest
  pub silent : out_of first ≡ []
  pub noted : notes_of first ≡ line
  pub only : notes_of rest ≡ []

-- of all these bits the first whole octets were given, after a line in the notes, and `bits` stay
pub record AreGiven (texts : List Text) (line : List ℕ) (all bits : List Bool) : Type 0 where
  pub are_octets : AreOctets (out_of texts)
  pub octets : bits_of (out_of texts) ++ bits ≡ all
  pub noted : IsFirstNote texts line

-- The decoder of a configuration was given these octets. Of the bits of them that are due the whole
-- octets were given, the others are packed, and the windows are counted; the line of the phase came
-- before.
pub record GivesBits (c : Configuration) (decoder : InnerDecoding) (bits : List Bool)
    (windows : ℕ) (octets : List ℕ) (texts : List Text) : Type 0 where
  pub accepted : IsAccepted c
  pub config : decoder.config ≡ c
  pub handed : List (Handed WindowBlock)
  pub stands : HasHanded decoder octets handed
  pub counted : windows ≡ raised_by (length (items_of handed)) 0
  pub few : length bits < 8
  pub given : AreGiven texts (phase_line handed) (bits_of_handed c octets handed) bits

-- all bits of these octets were given, and the line after them
pub record GivesAllBits (c : Configuration) (octets : List ℕ) (texts : List Text) : Type 0 where
  pub accepted : IsAccepted c
  pub handed : List (Handed WindowBlock)
  pub left : ℕ
  pub are_handed : AreHanded c octets handed left
  pub before : List Text
  pub split : texts ≡ before ++ Note (end_line c octets handed left) ∷ []
  pub out : out_of before ≡ filled_octets (bits_of_handed c octets handed)
  pub noted : IsFirstNote before (phase_line handed)
