-- The totals that the decoder's path metrics are.
use Rattle.std.specs.Prelude.{ℕ, ◌≡◌, ◌+◌, ◌*◌, ◌^◌, ◌<◌, ◌≤◌, List, Bool, reverse, slice_index}
use Rattle.tm_conv.specs.declared.rates.Rate.{Rate}
use Rattle.tm_conv.specs.Path.{path, sent, registers}
use Rattle.tm_conv.specs.Cost.{cost}
use Rattle.tm_conv.specs.Columns.{first_cost}
use Rattle.tm_viterbi.specs.AddCompareSelect.{IsNextSums, AreSurvivors}

-- what a path, its newest bit first, costs for these octets, with the first sum of its starting
-- register
abbrev pub total_of : Rate → Bool → ℕ → List ℕ → List ℕ → ℕ → List ℕ → ℕ
total_of rate invert t firsts octets q past =
    slice_index firsts q + cost (path rate invert t q (reverse past)) octets

-- the branch metrics of step t, by its four pairs of c1 and c2, before inversion
abbrev pub AreBranchMetrics : Rate → Bool → ℕ → List ℕ → List ℕ → Type 0
AreBranchMetrics rate invert t octets metrics = (c d : ℕ) → c < 2 → d < 2
    → slice_index metrics (2 * c + d) ≡ cost (sent rate invert t c d) octets

-- the path metrics before any step
abbrev pub AreFirsts : (ℕ → Bool) → List ℕ → Type 0
AreFirsts starts firsts = (register : ℕ) → register < registers
    → slice_index firsts register ≡ first_cost starts register

-- the least register of least path metric
pub record IsFirstLeast (sums : List ℕ) (s : ℕ) : Type 0 where
  pub register : s < registers
  pub least : (k : ℕ) → k < registers → slice_index sums s ≤ slice_index sums k
  pub first : (k : ℕ) → k < s → slice_index sums s < slice_index sums k

-- one step from path metrics to the next ones, which leaves these survivors
pub record StepsTo (rate : Rate) (invert : Bool) (t : ℕ) (octets sums next : List ℕ)
    (survivor : ℕ) : Type 0 where
  pub metrics : List ℕ
  pub are_branch_metrics : AreBranchMetrics rate invert t octets metrics
  pub are_sums : IsNextSums sums metrics next
  pub are_survivors : AreSurvivors sums metrics survivor

abbrev pub AreAtMost : ℕ → List ℕ → Type 0
AreAtMost most sums = (s : ℕ) → s < registers → slice_index sums s ≤ most

-- by how much path metrics differ at most that go in sixteen bits
abbrev pub most_spread : ℕ
most_spread = 4096

-- for how many steps they go in sixteen bits at most
abbrev pub most_narrow : ℕ
most_narrow = 120

-- they go in sixteen bits in steps before this one
abbrev pub narrow_bound : ℕ
narrow_bound = 2 ^ 63
