-- An encoder that is fed one piece.
use Rattle.std.proofs.Common.{◌≡◌, ℕ, Bool, List, ◌++◌, ◌∙◌, ap}
use Rattle.tm_base.specs.Bits.{bits_of}
use Rattle.tm_base.specs.Pieces.{further}
use Rattle.tm_base.proofs.Packing.{bits_of-append}
use Rattle.tm_conv.specs.Encoding.{Encoding, EncoderStandsFor, levels, sent_for}
use Rattle.tm_inner.specs.Sending.{EncodesFor, encoded}
use Rattle.tm_inner.proofs.Symbols.{further-is}

-- for each list of bits so far, an encoder goes on by these octets and sends these symbols
pub record GoesOnBy (before now : Encoding) (low : ℕ) (piece symbols : List ℕ) : Type 0 where
  pub stands : (given : List Bool) → EncoderStandsFor before given → EncoderStandsFor now (given ++ bits_of piece)
  pub sent : (given : List Bool) → EncoderStandsFor before given
      → levels low (sent_for before.rate before.invert (given ++ bits_of piece))
      ≡ levels low (sent_for before.rate before.invert given) ++ symbols

pub symbols-due : (before now : Encoding) (low : ℕ) (piece symbols given : List ℕ) → GoesOnBy before now low piece symbols
    → EncodesFor before given
    → further (encoded before.rate before.invert low) given piece ≡ symbols
symbols-due before now low piece symbols given on stood =
    further-is (encoded before.rate before.invert low) given piece symbols
    (ap (λ l. levels low (sent_for before.rate before.invert l)) (bits_of-append given piece)
    ∙ on.sent (bits_of given) stood)
