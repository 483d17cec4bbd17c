use Rattle.std.proofs.Common.{◌≡◌, ◌≤◌, arith}
use Rattle.tm_conv.proofs.Sizes.{steps_size-le}
use Rattle.tm_viterbi.proofs.window_pass.places.Goals as goal

pub returns-clause-order : goal.returns-clause-order
returns-clause-order c = (
  omega (
    arith,
    c.steps_len.ensures,
    c.steps_len-2.ensures,
    steps_size-le c.args.rate c.args.t c.args.overlap c.args.kept (omega (arith, c.requires.order.0)),
  ),
  omega (
    arith,
    c.steps_len-2.ensures,
    c.requires.size,
    steps_size-le c.args.rate c.args.t c.args.kept c.args.steps (omega (arith, c.requires.order.1)),
  ),
)
