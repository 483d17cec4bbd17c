use Rattle.std.proofs.Common.{◌≡◌, ◌-◌, suc, add-one}
use Rattle.tm_gf256.specs.Poly.{entry}
use Rattle.tm_rs_code.specs.ErrorValues.{divided, quotient_at}
use Rattle.tm_rs_code.proofs.Division.{divided-lt}
use Rattle.tm_rs.proofs.Endings.{elements_of}
use Rattle.tm_rs.proofs.Quotients.{divided_more, discrepancy_more, value_more}
use Rattle.tm_rs.proofs.error_values.divide.Goals as goal

pub loop-i-preserved : goal.loop-i-preserved
loop-i-preserved c =
    let last : c.add-q.result.0 ≡ divided (entry c.args.locator.now) c.args.x.0 (suc c.loop-i.i) =
    divided_more (entry c.args.locator.now) c.args.x.0 c.loop-i.i c.loop-i.q.0 c.mul.result.0 c.add-q.result.0
    c.loop-i.invariant.last c.mul.ensures c.add-q.ensures in
    record {
      last = rw add-one last;
      summed =
          rw add-one (discrepancy_more (quotient_at (entry c.args.locator.now) c.args.x.0)
          (entry c.args.syndromes.now) (c.args.degree - 1) c.loop-i.i
          c.loop-i.sum.0 c.add-q.result.0 c.mul-in-loop-i.result.0 c.add-sum.result.0 c.loop-i.invariant.summed last
          c.mul-in-loop-i.ensures c.add-sum.ensures);
      valued =
          rw add-one (value_more (quotient_at (entry c.args.locator.now) c.args.x.0) c.args.x.0 c.loop-i.i
          c.loop-i.slope.0 c.add-q.result.0 c.mul-in-loop-i-2.result.0 c.add-slope.result.0
          (divided-lt (entry c.args.locator.now) (elements_of c.args.locator.now c.see_range.ensures) c.args.x.0
          (suc c.loop-i.i))
          c.loop-i.invariant.valued last c.mul-in-loop-i-2.ensures c.add-slope.ensures);
    }
