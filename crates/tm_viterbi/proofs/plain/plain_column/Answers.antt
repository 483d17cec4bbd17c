use Rattle.std.proofs.Common.{ℕ, ◌+◌, min, nat_lt, if◌then◌else◌, sym, subst, arith}
use Rattle.tm_viterbi.specs.AddCompareSelect.{first_metric, second_metric}
use Rattle.tm_viterbi.proofs.Survivors.{HoldsBelow, bit_set_more, bit_clear_more, sum_more, choice_second, choice_first}
use Rattle.tm_viterbi.proofs.plain.plain_column.Goals as goal
use Rattle.tm_viterbi.proofs.plain.plain_column.Goals.{then-second-first, else-second-first}

pub loop-s-preserved : goal.loop-s-preserved
loop-s-preserved c =
    let sums = c.args.sums.now in
    let metrics = c.args.metrics.now in
    let s = c.loop-s.s in
    let F = λ (k : ℕ). if nat_lt (second_metric sums metrics k) (first_metric sums metrics k) then 1 else 0 in
    let G = λ (k : ℕ). min (first_metric sums metrics k) (second_metric sums metrics k) in
    let P = λ (v : ℕ). HoldsBelow F v (s + 1) in
    record {
      sums = sum_more G c.loop-s.next s c.min.result (omega arith) (cc) c.loop-s.invariant.sums;
      bits = elim c.if-second-first.branch [
        | then-second-first w ↦ subst P (sym w.survivors-is) (bit_set_more F c.loop-s.survivors s (omega arith)
            (choice_second _ _ _ _ c.path_metric-first.ensures c.path_metric-second.ensures w.if-second-first.true)
            c.loop-s.invariant.bits)
        | else-second-first w ↦ subst P (sym w.survivors-is) (bit_clear_more F c.loop-s.survivors s
            (choice_first _ _ _ _ c.path_metric-first.ensures c.path_metric-second.ensures w.if-second-first.false)
            c.loop-s.invariant.bits)
      ];
    }
