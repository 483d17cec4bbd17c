use Rattle.std.proofs.Common.{arith}
use Rattle.tm_gf256.proofs.Entries.{log_below}
use Rattle.tm_gf256.proofs.Products.{product_by_logs}
use Rattle.tm_gf256.proofs.element.Gf.mul.Goals as goal

pub overflow_add-logarithm : goal.overflow_add-logarithm
overflow_add-logarithm c = record {
  fits = omega (
    arith,
    log_below c.logarithm.result c.args.self.0 c.logarithm.ensures,
    log_below c.logarithm-2.result c.args.other.0 c.logarithm-2.ensures,
  );
}

pub power_or_zero-requires : goal.power_or_zero-requires
power_or_zero-requires c =
    omega (
      arith,
      log_below c.logarithm.result c.args.self.0 c.logarithm.ensures,
      log_below c.logarithm-2.result c.args.other.0 c.logarithm-2.ensures,
    )

pub returns : goal.returns
returns c =
    product_by_logs c.args.self.0 c.args.other.0 c.logarithm.result c.logarithm-2.result c.power_or_zero.result
    c.logarithm.ensures c.logarithm-2.ensures c.power_or_zero.ensures.low c.power_or_zero.ensures.high
