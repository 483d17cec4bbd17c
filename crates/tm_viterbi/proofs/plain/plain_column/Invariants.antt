use Rattle.std.proofs.Common.{◌≡◌, ℕ, ◌<◌, slice_index, nat_lt, if◌then◌else◌, min}
use Rattle.tm_viterbi.specs.AddCompareSelect.{first_metric, second_metric}
use Rattle.tm_viterbi.proofs.Survivors.{HoldsBelow}
use Rattle.tm_viterbi.proofs.plain.plain_column.Given as goal

abbrev pub invariant-loop-s : goal.invariant-loop-s
invariant-loop-s l = record {
  sums : (k : ℕ) → k < l.s → slice_index l.next k
      ≡ min (first_metric l.sums l.metrics k) (second_metric l.sums l.metrics k);
  bits : HoldsBelow (λ k. if nat_lt (second_metric l.sums l.metrics k)
      (first_metric l.sums l.metrics k) then 1 else 0) l.survivors l.s;
}
