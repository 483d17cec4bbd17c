use Rattle.std.proofs.Common.{◌≡◌, ◌+◌, ◌-◌, ap, arith, length, length-drop, take, drop}
use Rattle.std.proofs.lemmas.List.{length-take-le, drop_all}
use Rattle.tm_viterbi.specs.Distances.{least_distances}
use Rattle.tm_viterbi.proofs.Distances.{left_after}
use Rattle.tm_viterbi.proofs.path_cost.least_distances.Goals as goal

pub loop-at-preserved : goal.loop-at-preserved
loop-at-preserved c =
    let i = c.loop-at.invariant in
    let at = c.loop-at.at in
    let size = c.min-size.result in
    let soft = c.args.soft.now in
    let long : length (take (at + size - at) (drop at soft)) ≡ at + size - at =
    length-take-le (at + size - at) (drop at soft) (omega (arith, length-drop at soft, c.min-size.ensures, i.within)) in
    let piece = c.few_distances.ensures in
    record {
      sum = omega (arith, i.sum, left_after at size soft, piece.value, c.from-sum.ensures);
      small = omega (arith, i.small, piece.small, long, c.from-sum.ensures);
      within = omega (arith, c.min-size.ensures, i.within);
    }

pub returns : goal.returns
returns c =
    let i = c.loop-at.invariant in
    let none = ap least_distances (drop_all c.loop-at.at c.args.soft.now c.loop-at-test.false) in
    record {
      value = omega (arith, i.sum, none);
      small = omega (arith, i.small, i.within, c.requires);
    }
