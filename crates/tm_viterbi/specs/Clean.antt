-- Soft octets of symbols that were sent and not disturbed, and what blocks keep of them.
use Rattle.std.specs.Prelude.{ℕ, ◌≡◌, ◌<◌, ◌≤◌, ◌-◌, ◌⊎◌, List, [], ◌∷◌, ◌++◌, length, take, map}
use Rattle.tm_conv.specs.declared.rates.Rate.TheVariants.{R12}
use Rattle.tm_conv.specs.Path.{path, register_size, registers}
use Rattle.tm_conv.specs.Cost.{greatest_octet, sure}
use Rattle.tm_viterbi.specs.declared.block.Start.TheVariants.{Zero, Any}
use Rattle.tm_viterbi.specs.Settings.{Settings}
use Rattle.tm_viterbi.specs.WindowBlock.{WindowBlock}

-- the bits that blocks keep, one block after the other
abbrev pub kept_bits : List WindowBlock → List ℕ
kept_bits [] = []
kept_bits (block ∷ blocks) = take block.kept block.bits ++ kept_bits blocks

-- no path of these blocks costs anything
abbrev pub CostNothing : List WindowBlock → Type 0
CostNothing [] = Unit {0}
CostNothing (block ∷ blocks) = (block.metric ≡ 0) × CostNothing blocks

-- the surest soft octets of the symbols of these bits, from a register at step 0
abbrev pub sure_symbols : Settings → ℕ → List ℕ → List ℕ
sure_symbols s register bits = sure (path s.rate s.invert 0 register bits)

-- The symbols of these bits from this register fix both: paths start from register 0 alone, and so
-- do these symbols; or paths start from any register, at rate 1/2, and there are no steps or at
-- least six.
abbrev pub IsFixed : Settings → ℕ → List ℕ → Type 0
IsFixed s register bits =
    ((s.start ≡ Zero) × (register ≡ 0))
    ⊎ ((s.start ≡ Any) × (s.rate ≡ R12) × (register < registers)
    × ((bits ≡ []) ⊎ (register_size ≤ length bits)))

-- the blocks keep exactly these bits, no path costs anything, and no octet is left over
pub record AreClean (bits : List ℕ) (blocks : List WindowBlock) (left : ℕ) : Type 0 where
  pub kept : kept_bits blocks ≡ bits
  pub free : CostNothing blocks
  pub whole : left ≡ 0

-- each soft octet for the other symbol, as sure as before
abbrev pub complemented_octets : List ℕ → List ℕ
complemented_octets octets = map (λ octet. greatest_octet - octet) octets
