-- What an encoder keeps, for which bits, given so far, it stands, and what is sent for them.
use Rattle.std.specs.Prelude.{◌≡◌, ℕ, ◌-◌, ◌%◌, ◌==◌, if◌then◌else◌, Bool, List, [], ◌∷◌, length, map}
use Rattle.tm_base.specs.Bits.{bit_number}
use Rattle.tm_conv.specs.declared.rates.Rate.{Rate}
use Rattle.tm_conv.specs.declared.encoder.Symbols.{Symbols}
use Rattle.tm_conv.specs.declared.encoder.Symbols.TheVariants.{One, Two}
use Rattle.tm_conv.specs.Path.{path, register_after, period}
use Rattle.tm_conv.specs.Cost.{greatest_octet}

-- truth values as the numbers that paths are of
abbrev pub bit_numbers : List Bool → List ℕ
bit_numbers bits = map bit_number bits

-- the symbols of one step, as a path has them
abbrev pub symbol_list : Symbols → List ℕ
symbol_list (One symbol) = bit_number symbol ∷ []
symbol_list (Two first second) = bit_number first ∷ bit_number second ∷ []

-- the symbols that are sent for bits, from register 0 at step 0
abbrev pub sent_for : Rate → Bool → List Bool → List ℕ
sent_for rate invert bits = path rate invert 0 0 (bit_numbers bits)

-- the octet of a symbol: a 0 is sent as the octet `low`, and a 1 as its complement
abbrev pub level : ℕ → ℕ → ℕ
level low symbol = if symbol == 0 then low else greatest_octet - low

-- the octets of symbols
abbrev pub levels : ℕ → List ℕ → List ℕ
levels low symbols = map (level low) symbols

-- what contracts see of an encoder: its register, and the position of its next step in the puncture
-- pattern
pub record Encoding : Type 0 where
  pub rate : Rate
  pub invert : Bool
  pub register : ℕ
  pub position : ℕ

-- an encoder that was given these bits, and no others
pub record EncoderStandsFor (encoder : Encoding) (bits : List Bool) : Type 0 where
  pub register : encoder.register ≡ register_after 0 (bit_numbers bits)
  pub position : encoder.position ≡ length bits % period encoder.rate
