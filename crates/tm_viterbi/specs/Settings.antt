-- How soft octets are decoded.
use Rattle.std.specs.Prelude.{ℕ, Bool}
use Rattle.tm_conv.specs.declared.rates.Rate.{Rate}
use Rattle.tm_viterbi.specs.declared.block.Start.{Start}

-- the rate, whether each second sum was sent inverted, where the first path may start, and how many
-- steps of a window are kept and how many follow them
pub record Settings : Type 0 where
  pub rate : Rate
  pub invert : Bool
  pub start : Start
  pub keep : ℕ
  pub ahead : ℕ
