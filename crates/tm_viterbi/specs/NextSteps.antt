-- The next steps of a stream of soft octets.
use Rattle.std.specs.Prelude.{ℕ, ◌≡◌, ◌<◌, ◌≤◌}
use Rattle.tm_conv.specs.declared.rates.Rate.{Rate}
use Rattle.tm_conv.specs.Path.{steps_size}

-- `steps` steps from step t on, at least one and at most `limit`, are `octets` of `len` octets
pub record AreNextSteps (rate : Rate) (t limit len steps octets : ℕ) : Type 0 where
  pub some : (0 < steps) × (steps ≤ limit)
  pub size : octets ≡ steps_size rate t steps
  pub fits : octets ≤ len
