use Rattle.std.proofs.Common.{◌-◌, length, get_or, cond, false, arith}
use Rattle.tm_rs_code.specs.Code.{weight}
use Rattle.tm_rs_code.specs.Erasures.{inside}
use Rattle.tm_rs_code.specs.ErrorValues.{symbol_at}
use Rattle.tm_rs.proofs.Named.{inside_next, one_at_most}
use Rattle.tm_rs.proofs.erased_word.count_inside.Goals as goal

pub loop-j-preserved : goal.loop-j-preserved
loop-j-preserved c = record {
  counted = λ u w h size.
      inside_next c.args.erased.now w c.loop-j.j c.erased_error-count.result c.loop-j.count
      (weight (inside c.args.erased.now w)) (omega arith) size
      (c.erased_error-count.ensures u w h) (c.loop-j.invariant.counted u w h size);
  small =
      let found = c.requires.located in
      omega (
        arith,
        c.loop-j.invariant.small,
        one_at_most c.erased_error-count.result
            (cond (get_or c.args.erased.now c.loop-j.j false)
            (symbol_at found.1 (length c.args.erased.now - 1 - c.loop-j.j)) 0)
            (c.erased_error-count.ensures found.0 found.1 found.2),
      );
}
