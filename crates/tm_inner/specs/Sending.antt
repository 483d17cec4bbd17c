-- What an inner sender keeps, and for which octets, given so far, it stands.
use Rattle.std.specs.Prelude.{◌≡◌, ℕ, if◌then◌else◌, Bool, false, List, ◌++◌, Option, Some, None}
use Rattle.std.specs.Option.{is_some}
use Rattle.tm_base.specs.Bits.{bits_of}
use Rattle.tm_base.specs.Pieces.{Fed, FedPrefix, further}
use Rattle.tm_config.specs.Configuration.{Configuration}
use Rattle.tm_conv.specs.declared.rates.Rate.{Rate}
use Rattle.tm_conv.specs.Octets.{most_octet_symbols}
use Rattle.tm_conv.specs.Encoding.{Encoding, EncoderStandsFor, bit_numbers, levels, sent_for}
use Rattle.tm_inner.specs.Symbols.{is_inverted, symbols_of_octets}

-- what contracts see of an inner sender
pub record InnerSending : Type 0 where
  pub config : Configuration
  pub encoder : Option Encoding
  pub has_failed : Bool

-- the encoder is that of the configuration's inner code, and there is none where it has no inner
-- code
abbrev pub IsEncoderOf : Configuration → Option Encoding → Type 0
IsEncoderOf c None = c.inner ≡ None
IsEncoderOf c (Some encoder) = (c.inner ≡ Some encoder.rate)
    × (encoder.invert ≡ is_inverted encoder.rate c.invert)

-- an encoder that was given the bits of these octets
abbrev pub EncodesFor : Encoding → List ℕ → Type 0
EncodesFor encoder octets = EncoderStandsFor encoder (bits_of octets)

-- the octets of the symbols of these octets
abbrev pub encoded : Rate → Bool → ℕ → List ℕ → List ℕ
encoded rate invert low octets = levels low (sent_for rate invert (bits_of octets))

-- an octet for each bit of these octets
abbrev pub spread : ℕ → List ℕ → List ℕ
spread low octets = levels low (bit_numbers (bits_of octets))

-- register and pattern are those after the bits of these octets; with no inner code nothing is
-- kept
abbrev pub KeepsFor : Option Encoding → List ℕ → Type 0
KeepsFor None octets = Unit {0}
KeepsFor (Some encoder) octets = EncodesFor encoder octets

-- an inner sender that was given these octets, and no others
abbrev pub InnerSenderStandsFor : InnerSending → List ℕ → Type 0
InnerSenderStandsFor sender octets = KeepsFor sender.encoder octets

-- how many symbols an octet comes to at most: two for each of its bits, or with no inner code
-- itself, or one for each bit where these are not packed
abbrev pub most_symbols : Configuration → ℕ
most_symbols c = if is_some c.inner then most_octet_symbols else if c.pack then 1 else 8

-- the symbols of octets are these octets: with no inner code, where bits are packed
abbrev pub is_plain : Configuration → Bool
is_plain c = if is_some c.inner then false else c.pack

-- given these octets, a sender went on, and these symbols are due for them
pub record InnerMakes (before now : InnerSending) (octets symbols : List ℕ) : Type 0 where
  pub config : now.config ≡ before.config
  pub stands : (given : List ℕ) → InnerSenderStandsFor before given
      → InnerSenderStandsFor now (given ++ octets)
  pub due : (given : List ℕ) → InnerSenderStandsFor before given
      → further (symbols_of_octets before.config) given octets ≡ symbols

-- given these octets, a sender went on and wrote what is due for them
pub record InnerSends (before now : InnerSending) (taken taken_now : Option (List ℕ))
    (octets : List ℕ) : Type 0 where
  pub config : now.config ≡ before.config
  pub fed : Fed InnerSenderStandsFor (symbols_of_octets before.config) before
      now taken taken_now octets

-- given these octets, a sender wrote a prefix of what is due for them
abbrev pub InnerSendsPrefix : InnerSending → Option (List ℕ) → Option (List ℕ) → List ℕ → Type 0
InnerSendsPrefix before taken taken_now octets =
    FedPrefix InnerSenderStandsFor (symbols_of_octets before.config) before taken taken_now octets
