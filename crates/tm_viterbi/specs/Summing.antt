-- What running sums keep, and for which octets, given so far, they stand.
use Rattle.std.specs.Prelude.{◌≡◌, ℕ, Bool, List, Option, length}
use Rattle.tm_conv.specs.declared.rates.Rate.{Rate}
use Rattle.tm_conv.specs.Path.{steps_size}
use Rattle.tm_viterbi.specs.Starts.{starts_from}
use Rattle.tm_viterbi.specs.Walk.{AreBest}
use Rattle.tm_viterbi.specs.Totals.{total_of, AreFirsts}

-- what contracts see of running sums: how they began, the steps given, and the column after them
pub record Summing : Type 0 where
  pub rate : Rate
  pub invert : Bool
  pub first : ℕ
  pub start : Option ℕ
  pub steps : ℕ
  pub column : List ℕ

-- sums that were given the octets of these steps: of each register the column has the best path's
-- total
pub record SumsFor (sums : Summing) (octets : List ℕ) : Type 0 where
  pub size : length octets ≡ steps_size sums.rate sums.first sums.steps
  pub firsts : List ℕ
  pub are_firsts : AreFirsts (starts_from sums.start) firsts
  pub survivors : List ℕ
  pub best : AreBest (total_of sums.rate sums.invert sums.first firsts octets) sums.steps
      sums.column survivors
