use Rattle.std.proofs.Common.{◌-◌, arith}
use Rattle.tm_gf256.proofs.Products.{power-alpha_nonzero}
use Rattle.tm_gf256.proofs.element.Gf.inv.Goals as goal

pub returns-clause-nonzero : goal.returns-clause-nonzero
returns-clause-nonzero c =
    power-alpha_nonzero (255 - c.logarithm.result) c.power_or_zero.result (c.power_or_zero.ensures.low (omega arith))
