use Rattle.std.proofs.Common.{sym, arith}
use Rattle.tm_path_cert.proofs.Costs.{steps_size-none}
use Rattle.tm_path_cert.proofs.checking.Check.new.Goals as goal
use Rattle.tm_conv.proofs.Sizes.{steps_size-most}

pub invariant_of-result : goal.invariant_of-result
invariant_of-result c =
    let steps = c.requires.steps in (
      sym (steps_size-none c.args.rate c.args.first),
      omega (
        arith,
        steps.1,
        steps.2,
        steps_size-most c.args.rate c.args.first steps.0,
      ),
      omega arith,
    )
