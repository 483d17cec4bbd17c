use Rattle.std.proofs.Common.{◌≡◌, ℕ}
use Rattle.tm_conv.specs.Path.{steps_size}
use Rattle.tm_windows.specs.Phase.{IsCostAt, IsFirstLeast, IsCostAfter}
use Rattle.tm_windows.proofs.choosing.first_least.Given as goal

abbrev pub invariant-loop-skip : goal.invariant-loop-skip
invariant-loop-skip l = record {
  least : (steps : ℕ) → l.size ≡ steps_size l.rate l.t steps
      → IsFirstLeast (IsCostAfter l.limit (IsCostAt l.rate l.invert l.t steps l.soft)) l.skip l.chosen.skip
      l.chosen.cost;
}
