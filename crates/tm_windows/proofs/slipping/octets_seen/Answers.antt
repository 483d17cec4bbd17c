use Rattle.std.proofs.Common.{arith}
use Rattle.tm_conv.proofs.Sizes.{steps_size-most}
use Rattle.tm_windows.proofs.slipping.octets_seen.Goals as goal

pub overflow_add-result : goal.overflow_add-result
overflow_add-result c =
    omega (
      arith,
      c.requires.steps,
      c.steps_len.ensures,
      steps_size-most c.args.rate c.args.t c.args.steps,
      c.period_size.ensures.small,
    )

pub returns-clause-at_most : goal.returns-clause-at_most
returns-clause-at_most c =
    omega (arith, c.steps_len.ensures, steps_size-most c.args.rate c.args.t c.args.steps, c.period_size.ensures.small)
