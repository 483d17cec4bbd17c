use Rattle.std.proofs.Common.{ℕ, ◌<◌}
use Rattle.tm_conv.specs.Path.{step_symbols}
use Rattle.tm_conv.specs.Cost.{cost}
use Rattle.tm_path_cert.specs.Tests.{IsLowEnough}
use Rattle.tm_path_cert.proofs.columns.first_undercut.Given as goal

abbrev pub invariant-loop-register : goal.invariant-loop-register
invariant-loop-register l =
    (other : ℕ) → other < l.register
    → IsLowEnough (λ from bit. cost (step_symbols l.step.rate l.step.invert l.step.t from bit) l.step.octets.now)
    l.before l.sums other
