-- What a certificate speaks of: soft octets, the step at which they begin, and the registers that a
-- path may start from.
use Rattle.std.specs.Prelude.{ℕ, ◌+◌, ◌*◌, ◌^◌, ◌<◌, ◌==◌, Bool, true, List, take, drop}
use Rattle.tm_conv.specs.declared.rates.Rate.{Rate}
use Rattle.tm_conv.specs.Path.{step_size, steps_size, step_symbols, path, registers}
use Rattle.tm_conv.specs.Cost.{cost}
use Rattle.tm_path_cert.specs.declared.verdicts.Starts.{Starts}
use Rattle.tm_path_cert.specs.declared.verdicts.Starts.TheVariants.{Any, One}

-- the most steps of a path, and the most soft octets
abbrev pub most_steps : ℕ
most_steps = 2 ^ 24

abbrev pub most_soft : ℕ
most_soft = 2 * most_steps

pub record Claim : Type 0 where
  pub rate : Rate
  pub invert : Bool
  pub first : ℕ
  pub starts : Starts
  pub soft : List ℕ

-- whether a path may start from a register
abbrev pub is_start : Starts → ℕ → Bool
is_start Any register = true
is_start (One start) register = register == start

-- a start is one of the 64 registers
abbrev pub AreRegisters : Starts → Type 0
AreRegisters Any = Unit {0}
AreRegisters (One start) = start < registers

-- the soft octets of step k, counted from the first
abbrev pub step_octets : Claim → ℕ → List ℕ
step_octets claim k = take (step_size claim.rate (claim.first + k))
    (drop (steps_size claim.rate claim.first k) claim.soft)

-- what step k costs from a register by a bit
abbrev pub edge_cost : Claim → ℕ → ℕ → ℕ → ℕ
edge_cost claim k register bit = cost (step_symbols claim.rate claim.invert
    (claim.first + k) register bit) (step_octets claim k)

-- what a path costs over all of the octets
abbrev pub path_cost : Claim → ℕ → List ℕ → ℕ
path_cost claim register bits = cost (path claim.rate claim.invert claim.first register bits)
    claim.soft
