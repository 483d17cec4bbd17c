use Rattle.std.proofs.Common.{◌-◌, length, arith, sym}
use Rattle.tm_rs.proofs.Registers.{last_stepped}
use Rattle.tm_rs.proofs.plain_register.shift_in.Goals as goal

pub returns : goal.returns
returns c =
    last_stepped c.args.register.now c.loop-i.register c.args.generator.now c.args.symbol.0 c.add-factor.result.0
    (length c.args.register.now - 1) c.mul-2.result
    (omega (arith, c.requires.some, c.requires.room)) (omega arith) (sym c.requires.room) c.add-factor.ensures
    (λ i lt. c.loop-i.invariant.done i (omega arith)) c.mul-2.ensures
