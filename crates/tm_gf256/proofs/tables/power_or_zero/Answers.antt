use Rattle.std.proofs.Common.{arith}
use Rattle.tm_gf256.proofs.Entries.{powers_low, powers_high}
use Rattle.tm_gf256.proofs.tables.power_or_zero.Goals as goal

pub returns-clause-low : goal.returns-clause-low
returns-clause-low c lt = powers_low c.args.i lt

pub returns-clause-high : goal.returns-clause-high
returns-clause-high c ge = powers_high c.args.i ge (omega (arith, c.requires))
