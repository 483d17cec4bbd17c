-- How many octets are dropped before a window, where symbols were lost or doubled before it.
use Rattle.std.specs.Prelude.{◌≡◌, ℕ, ◌+◌, ◌-◌, ◌*◌, Bool, List, min, nat_lt, if◌then◌else◌}
use Rattle.tm_conv.specs.declared.rates.Rate.{Rate}
use Rattle.tm_conv.specs.Path.{steps_size}
use Rattle.tm_viterbi.specs.Distances.{least_distances}
use Rattle.tm_windows.specs.Phase.{period_size, most_period_size, octets_at, IsCostAt, IsFirstLeast}

-- the most steps that are looked at
abbrev pub most_seen : ℕ
most_seen = 1024

-- how many steps are looked at: no more than that, and so few that a window which is closed has
-- been looked at
abbrev pub steps_seen : ℕ → ℕ → ℕ
steps_seen keep ahead = min (keep + ahead - most_period_size) most_seen

-- how many octets from step t on are looked at for a slip over `steps` steps
abbrev pub octets_seen : Rate → ℕ → ℕ → ℕ
octets_seen rate t steps = steps_size rate t steps + (period_size rate - 1)

-- what a path over octets costs beyond what they cost whatever the path
abbrev pub excess : ℕ → List ℕ → ℕ
excess amount octets = amount - least_distances octets

-- a candidate, where four times its excess is below three times that of 0, and else 0
abbrev pub decided : (number moved unmoved : ℕ) → ℕ
decided number moved unmoved = if nat_lt (4 * moved) (3 * unmoved) then number else 0

-- How many octets are dropped before a window from step t on that would begin with these octets: of
-- as many candidates as a period sends symbols the first of least cost over `steps` steps, where
-- four times its excess is below three times that of 0, and else none.
pub record IsSlip (rate : Rate) (invert : Bool) (t steps : ℕ) (octets : List ℕ)
    (slip : ℕ) : Type 0 where
  pub number : ℕ
  pub amount : ℕ
  pub least : IsFirstLeast (IsCostAt rate invert t steps octets) (period_size rate) number amount
  pub unmoved : ℕ
  pub is_cost : IsCostAt rate invert t steps octets 0 unmoved
  pub is : slip ≡ decided number (excess amount (octets_at rate t steps octets number))
      (excess unmoved (octets_at rate t steps octets 0))
