use Rattle.std.proofs.Common.{◌≡◌, ◌+◌, arith, ap}
use Rattle.tm_conv.specs.Path.{steps_size}
use Rattle.tm_conv.proofs.Sizes.{steps_size-add}
use Rattle.tm_conv.proofs.rates.steps_len.Goals as goal

pub overflow_sub-result : goal.overflow_sub-result
overflow_sub-result c =
    omega (
      arith,
      steps_size-add c.args.rate 0 c.args.t c.args.count,
      c.symbols_of-after.ensures,
      c.symbols_of.ensures,
    )

pub returns : goal.returns
returns c =
    let from : 0 + c.args.t ≡ c.args.t = omega arith in
    omega (
      arith,
      steps_size-add c.args.rate 0 c.args.t c.args.count,
      c.symbols_of-after.ensures,
      c.symbols_of.ensures,
      ap (λ t. steps_size c.args.rate t c.args.count) from,
    )
