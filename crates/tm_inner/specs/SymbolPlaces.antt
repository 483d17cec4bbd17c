-- Where the symbols of received bits stand among those that were given.
use Rattle.std.specs.Prelude.{ℕ, ◌+◌, List, Option, Some, None}
use Rattle.tm_config.specs.Configuration.{Configuration}
use Rattle.tm_conv.specs.declared.rates.Rate.{Rate}
use Rattle.tm_conv.specs.Path.{steps_size}
use Rattle.tm_viterbi.specs.WindowBlock.{WindowBlock}
use Rattle.tm_windows.specs.Windows.{dropped_to}

-- how many of the symbols that were given are not of any step before: those skipped, of the phase,
-- and dropped; with no inner code the skipped bits
abbrev pub origin_by : Option Rate → Configuration → (phase dropped : ℕ) → ℕ
origin_by None c phase dropped = c.skip
origin_by (Some rate) c phase dropped = c.skip + phase + dropped

-- how many symbols n received bits have
abbrev pub symbols_before : Option Rate → ℕ → ℕ
symbols_before None n = n
symbols_before (Some rate) n = steps_size rate 0 n

-- where the first symbol of received bit n stands among the octets that were given, or with no
-- inner code and packed bits among the bits, those counted that were skipped or dropped: kept steps
-- are numbered as bits are
abbrev pub symbol_at : Configuration → (phase : ℕ) → List WindowBlock → ℕ → ℕ
symbol_at c phase blocks n =
    origin_by c.inner c phase (dropped_to blocks n) + symbols_before c.inner n
