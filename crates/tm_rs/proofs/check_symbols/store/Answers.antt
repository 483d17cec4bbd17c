use Rattle.std.proofs.Common.{arith}
use Rattle.tm_rs.proofs.Registers.{numbers_are}
use Rattle.tm_rs.proofs.check_symbols.store.Goals as goal

pub returns : goal.returns
returns c = numbers_are c.loop-i.out c.args.register.now (omega arith) (λ i below. c.loop-i.invariant i (omega arith))
