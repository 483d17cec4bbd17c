-- How the branch metrics of two steps are taken from their soft octets, in sixteen lanes: one for
-- each sum of each step and each of the four pairs of c1 and c2.
use Rattle.std.specs.Prelude.{ℕ, ◌≡◌, ◌+◌, ◌<◌, List, [], ◌∷◌, Bool, if◌then◌else◌, slice_index_or}
use Rattle.tm_conv.specs.declared.rates.Rate.{Rate}
use Rattle.tm_conv.specs.Path.{keeps_c1, keeps_c2, most_period, step_size}
use Rattle.tm_conv.specs.Cost.{greatest_octet}
use Rattle.tm_viterbi.specs.declared.step_pairs.StepPair.{StepPair}

-- the lanes of what each sum has, in the order in which the sums are sent: those of each step's
-- first sum, and then those of each step's second
abbrev pub four_times : ℕ → ℕ → ℕ → ℕ → List ℕ
four_times a b c d = a ∷ a ∷ a ∷ a ∷ c ∷ c ∷ c ∷ c ∷ b ∷ b ∷ b ∷ b ∷ d ∷ d ∷ d ∷ d ∷ []

-- how many symbols are sent before a sum
abbrev pub pair_places : Rate → ℕ → List ℕ
pair_places rate t =
    let first = step_size rate t in
    four_times 0 (if keeps_c1 rate t then 1 else 0) first
    (first + (if keeps_c1 rate (t + 1) then 1 else 0))

-- what octets are xored with to be distances from each pair's sums, of which the second may be sent
-- inverted
abbrev pub two_step_masks : Bool → List ℕ
two_step_masks invert =
    let ones = greatest_octet in
    let near = (if invert then ones else 0) in
    let far = (if invert then 0 else ones) in
    0 ∷ 0 ∷ ones ∷ ones ∷ 0 ∷ 0 ∷ ones ∷ ones
    ∷ near ∷ far ∷ near ∷ far ∷ near ∷ far ∷ near ∷ far ∷ []

-- all bits where a sum is sent, and none where it is not
abbrev pub pair_sent : Rate → ℕ → List ℕ
pair_sent rate t =
    four_times (if keeps_c1 rate t then greatest_octet else 0)
    (if keeps_c2 rate t then greatest_octet else 0)
    (if keeps_c1 rate (t + 1) then greatest_octet else 0)
    (if keeps_c2 rate (t + 1) then greatest_octet else 0)

-- those of step t and the one after it
pub record IsStepPair (rate : Rate) (invert : Bool) (t : ℕ) (pair : StepPair) : Type 0 where
  pub places : pair.places ≡ pair_places rate t
  pub masks : pair.masks ≡ two_step_masks invert
  pub sent : pair.sent ≡ pair_sent rate t
  pub size : pair.size ≡ step_size rate t + step_size rate (t + 1)

-- how many pairs there are: one for each position of the longest pattern, and two more
abbrev pub pair_count : ℕ
pair_count = most_period + 2

-- those of the pattern's steps in turn
abbrev pub AreStepPairs : Rate → Bool → List StepPair → Type 0
AreStepPairs rate invert pairs = (k : ℕ) (d : StepPair) → k < pair_count
    → IsStepPair rate invert k (slice_index_or pairs k d)
