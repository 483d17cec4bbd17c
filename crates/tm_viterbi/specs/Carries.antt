-- Several steps of the forward pass.
use Rattle.std.specs.Prelude.{ℕ, ◌≡◌, ◌+◌, ◌++◌, List, [], ◌∷◌, Bool, length, reverse}
use Rattle.tm_conv.specs.declared.rates.Rate.{Rate}
use Rattle.tm_conv.specs.Path.{steps_size}
use Rattle.tm_viterbi.specs.Walk.{AreBest}
use Rattle.tm_viterbi.specs.Totals.{total_of}

-- the octets of some steps from step t, which bring sums to next and leave these survivors:
-- whatever came before, what was best stays best
pub record Carries (rate : Rate) (invert : Bool) (t : ℕ)
    (octets sums next survivors : List ℕ) : Type 0 where
  pub size : length octets ≡ steps_size rate t (length survivors)
  pub carries : (first i : ℕ) (firsts before past : List ℕ) → t ≡ first + i
      → length before ≡ steps_size rate first i
      → AreBest (total_of rate invert first firsts before) i sums past
      → AreBest (total_of rate invert first firsts (before ++ octets)) (i + length survivors) next
      (reverse survivors ++ past)

-- path metrics that are kept less a common base
abbrev pub lifted : ℕ → List ℕ → List ℕ
lifted base [] = []
lifted base (x ∷ xs) = (base + x) ∷ lifted base xs
