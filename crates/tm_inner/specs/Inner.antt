-- The bits that are received: those that the inner code is decoded to (CCSDS 131.0-B, Convolutional
-- Coding).
use Rattle.std.specs.Prelude.{◌≡◌, ◌⊎◌, ℕ, ◌*◌, ◌==◌, nat_le, Bool, true, false, if◌then◌else◌}
use Rattle.std.specs.Prelude.{List, [], drop, map, Option, Some, None}
use Rattle.tm_base.specs.Bits.{bits_of}
use Rattle.tm_base.specs.SoftForm.{unsigned_value}
use Rattle.tm_config.specs.Configuration.{Configuration, is_signed}
use Rattle.tm_conv.specs.declared.rates.Rate.{Rate}
use Rattle.tm_conv.specs.declared.rates.Rate.TheVariants.{R12}
use Rattle.tm_viterbi.specs.declared.block.Start.TheVariants.{Zero}
use Rattle.tm_viterbi.specs.Settings.{Settings}
use Rattle.tm_viterbi.specs.WindowBlock.{WindowBlock}
use Rattle.tm_viterbi.specs.Clean.{kept_bits}
use Rattle.tm_windows.specs.Slip.{steps_seen}
use Rattle.tm_windows.specs.Windows.{Windows, AreBlocksIn, AreDueIn, slips_of}
use Rattle.tm_inner.specs.Symbols.{is_inverted}

-- how soft octets of this rate are decoded
abbrev pub settings_of : Configuration → Rate → Settings
settings_of c rate = record {
  rate = rate;
  invert = is_inverted rate c.invert;
  start = c.start;
  keep = c.keep;
  ahead = c.ahead;
}

-- the windows in which they are
abbrev pub windows_of : Configuration → Rate → Windows
windows_of c rate = record {
  settings = settings_of c rate;
  seen = if c.follow then Some (steps_seen c.keep c.ahead) else None;
}

-- before how many of the windows of these blocks octets were dropped; None where the phase is not
-- followed
abbrev pub reported_slips : Configuration → List WindowBlock → Option ℕ
reported_slips c blocks = if c.follow then Some (slips_of blocks) else None

-- a soft octet as such, by the form of a configuration
abbrev pub soft_value : Configuration → ℕ → ℕ
soft_value c octet = unsigned_value (is_signed c.soft) octet

-- the soft octets that are decoded: those after the skipped ones, and after `phase` more of them
abbrev pub soft_octets : Configuration → ℕ → List ℕ → List ℕ
soft_octets c phase octets = map (soft_value c) (drop phase (drop c.skip octets))

-- the blocks of received octets, and how many octets are left over; none of either where there is
-- no inner code
abbrev pub BlocksAt : Option Rate → Configuration → ℕ → List ℕ → List WindowBlock → ℕ → Type 0
BlocksAt None c phase octets blocks left = (blocks ≡ []) × (left ≡ 0)
BlocksAt (Some rate) c phase octets blocks left =
    AreBlocksIn (windows_of c rate) (soft_octets c phase octets) blocks left

abbrev pub AreInnerBlocks : Configuration → ℕ → List ℕ → List WindowBlock → ℕ → Type 0
AreInnerBlocks c = BlocksAt c.inner c

-- the blocks that are due once octets were received, whatever octets come: all blocks but the last
abbrev pub DueAt : Option Rate → Configuration → ℕ → List ℕ → List WindowBlock → Type 0
DueAt None c phase octets blocks = blocks ≡ []
DueAt (Some rate) c phase octets blocks =
    AreDueIn (windows_of c rate) (soft_octets c phase octets) blocks

abbrev pub AreInnerDue : Configuration → ℕ → List ℕ → List WindowBlock → Type 0
AreInnerDue c = DueAt c.inner c

-- the bit that an octet is nearest to: 1 where its soft value is 128 or more
abbrev pub nearest_bit : Configuration → ℕ → Bool
nearest_bit c octet = nat_le 128 (soft_value c octet)

-- the bits that octets hold where there is no inner code: eight each, or the one that each is
-- nearest to
abbrev pub plain_bits_by : Bool → Configuration → List ℕ → List Bool
plain_bits_by true c octets = bits_of octets
plain_bits_by false c octets = map (nearest_bit c) octets

abbrev pub plain_bits : Configuration → List ℕ → List Bool
plain_bits c = plain_bits_by c.pack c

-- how many bits `octets` octets hold
abbrev pub plain_count : Configuration → ℕ → ℕ
plain_count c octets = if c.pack then 8 * octets else octets

-- the bits of received octets with these blocks: those that the blocks keep, or with no inner code
-- all after the skipped ones
abbrev pub bits_at : Option Rate → Configuration → List ℕ → List WindowBlock → List Bool
bits_at None c octets blocks = drop c.skip (plain_bits c octets)
bits_at (Some rate) c octets blocks = map (λ bit. bit == 1) (kept_bits blocks)

abbrev pub inner_bits : Configuration → List ℕ → List WindowBlock → List Bool
inner_bits c = bits_at c.inner c

-- these are the bits that are received with these octets
pub record Inner (c : Configuration) (phase : ℕ) (octets : List ℕ) (bits : List Bool) : Type 0 where
  pub blocks : List WindowBlock
  pub left : ℕ
  pub are_blocks : AreInnerBlocks c phase octets blocks left
  pub are_bits : bits ≡ inner_bits c octets blocks

-- It is known where the first path starts: there is no inner code, or it starts from register 0, or
-- the rate is 1/2, at which undisturbed symbols show it.
abbrev pub IsStartKnown : Configuration → Type 0
IsStartKnown c = (c.inner ≡ None) ⊎ (c.start ≡ Zero) ⊎ (c.inner ≡ Some R12)
