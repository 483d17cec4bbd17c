use Rattle.std.proofs.Common.{◌≡◌, ◌<◌, ◌≢◌, length, arith, get_or-set_other, get_or-set_same, below_more, ℕ, subst, sym, length-set}
use Rattle.tm_conv.specs.Columns.{first_cost}
use Rattle.tm_viterbi.specs.Starts.{starts_from}
use Rattle.tm_viterbi.proofs.path_ends.first_sums.Goals as goal

pub loop-r-preserved : goal.loop-r-preserved
loop-r-preserved c =
    let sums = c.loop-r.sums in
    let r = c.loop-r.r in
    let x = c.first_sum.result in
    record {
      long = simp length-set c.loop-r.invariant.long;
      firsts = below_more _ _
          (λ k lt. let ne : k ≢ r = omega arith in
          let P : ℕ → Type 0 = λ v. v ≡ first_cost (starts_from c.args.starts) k in
          subst P (sym (get_or-set_other sums r k x 0 ne)) (c.loop-r.invariant.firsts k lt))
          (let P : ℕ → Type 0 = λ v. v ≡ first_cost (starts_from c.args.starts) r in
          let lt : r < length sums = omega arith in
          subst P (sym (get_or-set_same sums r x 0 lt)) c.first_sum.ensures);
    }
