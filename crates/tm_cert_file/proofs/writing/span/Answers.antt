use Rattle.std.proofs.Common.{◌≡◌, ◌+◌, ap, arith}
use Rattle.tm_conv.specs.Path.{steps_size}
use Rattle.tm_cert_file.proofs.writing.span.Goals as goal
use Rattle.tm_conv.proofs.Sizes.{steps_size-add}

pub overflow_sub-result : goal.overflow_sub-result
overflow_sub-result c =
    omega (arith, steps_size-add c.args.rate 0 c.args.t c.args.steps, c.symbols_of.ensures, c.symbols_of-2.ensures)

pub returns : goal.returns
returns c =
    let from : 0 + c.args.t ≡ c.args.t = omega arith in
    omega (
      arith,
      steps_size-add c.args.rate 0 c.args.t c.args.steps,
      c.symbols_of.ensures,
      c.symbols_of-2.ensures,
      ap (λ t. steps_size c.args.rate t c.args.steps) from,
    )
