-- Worked values of the received bits, computed.
use Rattle.std.proofs.Common.{◌≡◌, true, false, [], ◌∷◌, Some, None, refl}
use Rattle.tm_base.specs.Bits.{low_bits}
use Rattle.tm_config.specs.Configuration.{Configuration, configuration_of, default_raw}
use Rattle.tm_config.specs.declared.values.SoftForm.TheVariants.{Unsigned, Signed}
use Rattle.tm_conv.specs.declared.rates.Rate.TheVariants.{R12, R23}
use Rattle.tm_viterbi.specs.declared.block.Start.TheVariants.{Zero, Any}
use Rattle.tm_inner.specs.Inner.{settings_of, soft_octets, bits_at, Inner}
use Rattle.tm_inner.specs.Symbols.{symbols_of_octets}

-- one octet is skipped, and soft octets are signed
abbrev signed : Configuration
signed = record (configuration_of default_raw) { soft = Signed; start = Any; skip = 1; keep = 64; ahead = 8 }

-- -128 is the surest 0, and 127 the surest 1
row_signed : soft_octets signed 0 (0x11 ∷ 0x80 ∷ 0x7F ∷ 0x00 ∷ 0xFF ∷ []) ≡ 0 ∷ 255 ∷ 128 ∷ 127 ∷ []
row_signed = refl

-- the phase is dropped after the skipped octet; unsigned octets stay as they are
row_phase : soft_octets (record signed { soft = Unsigned }) 2 (1 ∷ 2 ∷ 3 ∷ 0x80 ∷ []) ≡ 0x80 ∷ []
row_phase = refl

row_short : soft_octets signed 1 (1 ∷ []) ≡ []
row_short = refl

-- at rate 1/2 each second sum is inverted where it is not given, and at no other rate
row_settings : settings_of signed R12 ≡ record { rate = R12; invert = true; start = Any; keep = 64; ahead = 8 }
row_settings = refl

row_upright : settings_of (record signed { inner = Some R23; start = Zero }) R23
    ≡ record { rate = R23; invert = false; start = Zero; keep = 64; ahead = 8 }
row_upright = refl

-- of a block the first bits are kept
row_kept : bits_at (Some R12) signed [] (record {
  start = 0;
  steps = 3;
  kept = 2;
  metric = 9;
  bits = 1 ∷ 0 ∷ 1 ∷ [];
  end_state = 16;
  dropped = 0;
} ∷ []) ≡ true ∷ false ∷ []
row_kept = refl

-- with no inner code bits are skipped, not octets
row_bits : Inner (record signed { inner = None; skip = 3 }) 0 (0xA5 ∷ []) (false ∷ false ∷ true ∷ false ∷ true ∷ [])
unfolding low_bits
row_bits = record { blocks = []; left = 0; are_blocks = (refl, refl); are_bits = refl }

-- where bits are not packed each octet is the bit that it is nearest to, and as many are skipped
row_nearest : Inner (record signed { inner = None; skip = 1; pack = false }) 0 (0x11 ∷ 0x80 ∷ 0xFF ∷ 0x00 ∷ 0x7F ∷ [])
    (false ∷ false ∷ true ∷ true ∷ [])
row_nearest = record { blocks = []; left = 0; are_blocks = (refl, refl); are_bits = refl }

row_half : Inner (record signed { soft = Unsigned; inner = None; skip = 0; pack = false }) 0
    (0x00 ∷ 0x7F ∷ 0x80 ∷ 0xFF ∷ []) (false ∷ false ∷ true ∷ true ∷ [])
row_half = record { blocks = []; left = 0; are_blocks = (refl, refl); are_bits = refl }

-- and each bit is sent as an octet of its own
row_spread : symbols_of_octets (record signed { soft = Unsigned; inner = None; pack = false }) (0xA5 ∷ [])
    ≡ 0xFF ∷ 0x00 ∷ 0xFF ∷ 0x00 ∷ 0x00 ∷ 0xFF ∷ 0x00 ∷ 0xFF ∷ []
unfolding low_bits
row_spread = refl

row_spread_signed : symbols_of_octets (record signed { inner = None; pack = false }) (0x80 ∷ [])
    ≡ 0x7F ∷ 0x80 ∷ 0x80 ∷ 0x80 ∷ 0x80 ∷ 0x80 ∷ 0x80 ∷ 0x80 ∷ []
unfolding low_bits
row_spread_signed = refl
