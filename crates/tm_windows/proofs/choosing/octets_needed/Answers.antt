use Rattle.std.proofs.Common.{arith}
use Rattle.tm_windows.proofs.choosing.octets_needed.Goals as goal
use Rattle.tm_conv.proofs.Sizes.{steps_size-most}

pub overflow_add-result : goal.overflow_add-result
overflow_add-result c = omega (arith, c.symbols_of.ensures, steps_size-most c.args.rate 0 c.from.result)

pub returns-clause-at_most : goal.returns-clause-at_most
returns-clause-at_most c =
    omega (arith, c.symbols_of.ensures, c.from.ensures, steps_size-most c.args.rate 0 c.from.result)
