-- What is sent for the bits of marked codeblocks (CCSDS 131.0-B, Convolutional Coding).
use Rattle.std.specs.Prelude.{ℕ, Bool, true, false, List, Option, Some, None}
use Rattle.tm_base.specs.Bits.{bits_of, octets_of}
use Rattle.tm_config.specs.Configuration.{Configuration}
use Rattle.tm_config.specs.declared.values.SoftForm.{SoftForm}
use Rattle.tm_config.specs.declared.values.SoftForm.TheVariants.{Unsigned, Signed}
use Rattle.tm_conv.specs.declared.rates.Rate.{Rate}
use Rattle.tm_conv.specs.declared.rates.Rate.TheVariants.{R12, R23, R34, R56, R78}
use Rattle.tm_conv.specs.Encoding.{bit_numbers, levels, sent_for}

-- whether each second sum is sent inverted: as it was chosen, and else at rate 1/2 alone
abbrev pub is_inverted : Rate → Option Bool → Bool
is_inverted rate (Some invert) = invert
is_inverted R12 None = true
is_inverted R23 None = false
is_inverted R34 None = false
is_inverted R56 None = false
is_inverted R78 None = false

-- the octet of a symbol 0, whose complement is that of a 1: 00 and FF in the unsigned form, and in
-- the signed form 80 and 7F (hex)
abbrev pub low_level : SoftForm → ℕ
low_level Unsigned = 0x00
low_level Signed = 0x80

-- the octets of these bits as they are, where there is no inner code: one for eight of them, or one
-- for each as for a symbol
abbrev pub plain_symbols : Bool → Configuration → List Bool → List ℕ
plain_symbols true c bits = octets_of bits
plain_symbols false c bits = levels (low_level c.soft) (bit_numbers bits)

-- the octets that are sent for bits: with no inner code those of the bits themselves, packed or
-- not; else an octet for each symbol
abbrev pub symbols_by : Option Rate → Configuration → List Bool → List ℕ
symbols_by None c bits = plain_symbols c.pack c bits
symbols_by (Some rate) c bits = levels (low_level c.soft)
    (sent_for rate (is_inverted rate c.invert) bits)

-- the octets that are sent for bits with the inner code of a configuration
abbrev pub symbols_of : Configuration → List Bool → List ℕ
symbols_of c bits = symbols_by c.inner c bits

-- the octets that are sent for octets
abbrev pub symbols_of_octets : Configuration → List ℕ → List ℕ
symbols_of_octets c octets = symbols_of c (bits_of octets)
