-- Where the best path of a window may start.
use Rattle.std.specs.Prelude.{ℕ, ◌==◌, Bool, true, Option, Some, None}
use Rattle.tm_viterbi.specs.declared.block.Start.{Start}
use Rattle.tm_viterbi.specs.declared.block.Start.TheVariants.{Zero, Any}

-- the registers of a start set: the given one alone, or all 64
abbrev pub starts_from : Option ℕ → ℕ → Bool
starts_from None register = true
starts_from (Some first) register = register == first

-- the start set of the first window: register 0 alone, or all 64
abbrev pub first_start : Start → Option ℕ
first_start Zero = Some 0
first_start Any = None
