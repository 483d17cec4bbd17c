use Rattle.std.proofs.Common.{◌≡◌, ℕ, arith}
use Rattle.tm_conv.specs.Path.{steps_size}
use Rattle.tm_windows.specs.Phase.{period_size, IsCostAt}
use Rattle.tm_windows.proofs.Least.{IsCostAt-one, IsCostAfter-all, IsFirstLeast-all}
use Rattle.tm_windows.proofs.Phases.{compared_fit, IsFirstLeast-nothing}
use Rattle.tm_windows.proofs.choosing.choose.Goals as goal

pub cost_at-first-requires-clause-inside : goal.cost_at-first-requires-clause-inside
cost_at-first-requires-clause-inside c =
    let found = c.compared-size.ensures in
    omega (arith, found.2, compared_fit c.args.rate c.args.window c.args.soft.now found.0 found.1)

pub cost_at-first-requires-clause-whole : goal.cost_at-first-requires-clause-whole
cost_at-first-requires-clause-whole c =
    let found = c.compared-size.ensures in
    (found.0, omega (arith, found.1.lesser, c.requires.1), found.2)

pub returns-then-size-eq0 : goal.returns-then-size-eq0
returns-then-size-eq0 c =
    let found = c.compared-size.ensures in
    let none : steps_size c.args.rate 0 found.0 ≡ 0 = omega (arith, found.2, c.if-size-eq0.true) in
    record {
      steps = found.0;
      compared = found.1;
      least =
          IsFirstLeast-nothing c.args.rate c.args.invert found.0 c.args.soft.now c.cost_at-first.result none
          (c.cost_at-first.ensures.cost found.0 found.2);
    }

pub first_least-requires-clause-inside : goal.first_least-requires-clause-inside
first_least-requires-clause-inside c =
    let found = c.compared-size.ensures in
    omega (arith, found.2, compared_fit c.args.rate c.args.window c.args.soft.now found.0 found.1, c.if-size-eq0.false)

pub first_least-requires-clause-whole : goal.first_least-requires-clause-whole
first_least-requires-clause-whole c =
    let found = c.compared-size.ensures in
    (found.0, omega (arith, found.1.lesser, c.requires.1), found.2)

pub returns : goal.returns
returns c =
    let found = c.compared-size.ensures in
    let Cost : ℕ → ℕ → Type 0 = IsCostAt c.args.rate c.args.invert 0 found.0 c.args.soft.now in
    let first = c.cost_at-first.result in
    let is = c.cost_at-first.ensures.cost found.0 found.2 in
    let chosen = c.first_least.result in
    let least = c.first_least.ensures.least found.0 found.2 in
    record {
      steps = found.0;
      compared = found.1;
      least =
          IsFirstLeast-all Cost (IsCostAt-one c.args.rate c.args.invert 0 found.0 c.args.soft.now)
          (period_size c.args.rate) chosen.skip chosen.cost first first is (omega arith)
          (IsCostAfter-all first Cost chosen.skip chosen.cost is least.is) least;
    }
