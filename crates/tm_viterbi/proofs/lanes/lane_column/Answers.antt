use Rattle.std.proofs.Common.{ℕ, List, subst, sym}
use Rattle.tm_viterbi.specs.AddCompareSelect.{IsNextSums}
use Rattle.tm_viterbi.proofs.Butterfly.{AreLanes, IsNextSums-from_lanes, AreSurvivors-from_lanes}
use Rattle.tm_viterbi.proofs.lanes.lane_column.Goals as goal

abbrev Lanes : (c : goal.After-store_halves) → Type 0
Lanes c =
    AreLanes c.args.sums.now c.args.metrics.now c.halves.result.0 c.halves.result.1 c.near_metrics-near.result
    c.far_metrics-far.result

lanes : (c : goal.After-store_halves) → Lanes c
lanes c =
    record {
      evens = c.halves.ensures.even;
      odds = c.halves.ensures.odd;
      nears = c.near_metrics-near.ensures;
      fars = c.far_metrics-far.ensures;
    }

pub returns-clause-sums : goal.returns-clause-sums
returns-clause-sums c =
    let P : List ℕ → Type 0 = λ v. IsNextSums c.args.sums.now c.args.metrics.now v in
    subst P (sym c.store_halves.ensures)
    (IsNextSums-from_lanes _ _ _ _ _ _ c.lesser-low_bits.result.0 c.lesser-high_bits.result.0
    (lanes c) c.lesser-low_bits.ensures.sums c.lesser-high_bits.ensures.sums)

pub returns-clause-survivors : goal.returns-clause-survivors
returns-clause-survivors c =
    AreSurvivors-from_lanes _ _ _ _ _ _ c.lesser-low_bits.result.1 c.lesser-high_bits.result.1 (lanes c)
    c.lesser-low_bits.ensures.bits c.lesser-high_bits.ensures.bits c.lesser-low_bits.ensures.small
    c.lesser-high_bits.ensures.small
