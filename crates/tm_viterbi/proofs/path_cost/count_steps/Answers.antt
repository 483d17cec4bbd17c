use Rattle.std.proofs.Common.{◌∙◌, sym, arith}
use Rattle.tm_conv.proofs.Paths.{steps_size-more}
use Rattle.tm_viterbi.proofs.Carrying.{one_step}
use Rattle.tm_viterbi.proofs.PassSteps.{period_more}
use Rattle.tm_viterbi.proofs.path_cost.count_steps.Goals as goal

pub loop-count-init : goal.loop-count-init
loop-count-init c = record {
  some = omega arith;
  within = c.requires.limit;
  size = c.step_len-size.ensures ∙ sym (one_step c.args.rate c.args.t);
  fits = omega (arith, c.step_len-size.ensures, c.requires.step);
}

pub loop-count-preserved : goal.loop-count-preserved
loop-count-preserved c =
    let i = c.loop-count.invariant in record {
      some = omega arith;
      within = omega arith;
      size = omega (
        arith,
        i.size,
        period_more c.args.rate c.args.t c.loop-count.count c.from-period.result
            (c.from-period.ensures ∙ c.period.ensures.period),
      );
      fits = omega arith;
    }

pub loop-count-2-preserved : goal.loop-count-2-preserved
loop-count-2-preserved c =
    let i = c.loop-count-2.invariant in record {
      some = omega arith;
      within = omega arith;
      size = omega (arith, i.size, c.step_len-more.ensures, steps_size-more c.args.rate c.args.t c.loop-count-2.count);
      fits = omega arith;
    }
