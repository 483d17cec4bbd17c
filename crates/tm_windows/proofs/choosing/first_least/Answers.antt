use Rattle.std.proofs.Common.{◌≡◌, ℕ, ◌+◌, sym, subst, refl, arith}
use Rattle.tm_windows.specs.declared.choosing.Chosen.{Chosen}
use Rattle.tm_windows.specs.Phase.{period_size, IsCostAt, IsFirstLeast, IsCostAfter}
use Rattle.tm_windows.proofs.Least.{IsCostAt-one, IsCostAfter-one, IsCostAfter-later, IsFirstLeast-alone, IsFirstLeast-takes, IsFirstLeast-keeps}
use Rattle.tm_windows.proofs.choosing.first_least.Goals as goal
use Rattle.tm_windows.proofs.choosing.first_least.Goals.{then-cost-chosen, else-cost-chosen}

pub loop-skip-init : goal.loop-skip-init
loop-skip-init c = record {
  least = λ steps is.
      let Cost : ℕ → ℕ → Type 0 = IsCostAt c.args.rate c.args.invert c.args.t steps c.args.soft.now in
      IsFirstLeast-alone (IsCostAfter c.args.limit Cost)
      (IsCostAfter-one c.args.limit Cost (IsCostAt-one c.args.rate c.args.invert c.args.t steps c.args.soft.now))
      c.args.limit refl;
}

pub cost_below-cost-requires-clause-inside : goal.cost_below-cost-requires-clause-inside
cost_below-cost-requires-clause-inside c =
    omega (arith, c.requires.inside, c.period_size-skip-end.ensures.value, c.loop-skip-test.true)

pub cost_below-cost-requires-clause-whole : goal.cost_below-cost-requires-clause-whole
cost_below-cost-requires-clause-whole c = c.requires.whole

pub loop-skip-preserved : goal.loop-skip-preserved
loop-skip-preserved c =
    let skip = c.loop-skip.skip in
    let before = c.loop-skip.chosen in
    let next = c.cost_below-cost.result in
    record {
      least = λ steps is.
          let Cost : ℕ → ℕ → Type 0 = IsCostAt c.args.rate c.args.invert c.args.t steps c.args.soft.now in
          let After : ℕ → ℕ → Type 0 = IsCostAfter c.args.limit Cost in
          let one = IsCostAfter-one c.args.limit Cost
          (IsCostAt-one c.args.rate c.args.invert c.args.t steps c.args.soft.now) in
          let least = c.loop-skip.invariant.least steps is in
          let found = c.cost_below-cost.ensures.cost steps is in
          let after = IsCostAfter-later c.args.limit Cost skip found.0 c.loop-skip.auto.skip found.1 in
          let Least : Chosen → Type 0 = λ chosen. IsFirstLeast After (skip + 1) chosen.skip chosen.cost in
          elim c.if-cost-chosen.branch [
            | then-cost-chosen w ↦
                let same : found.0 ≡ next = omega (arith, found.2, w.if-cost-chosen.true) in
                subst Least (sym w.chosen-is)
                (IsFirstLeast-takes After one skip before.skip before.cost next least (subst (After skip) same after)
                w.if-cost-chosen.true)
            | else-cost-chosen w ↦ subst Least (sym w.chosen-is)
                (IsFirstLeast-keeps After one skip before.skip before.cost found.0 least after
                (omega (arith, found.2, w.if-cost-chosen.false)))
          ];
    }

pub returns : goal.returns
returns c = record {
  least = λ steps is.
      let chosen = c.loop-skip.chosen in
      let all : c.loop-skip.skip ≡ period_size c.args.rate = omega
      (arith, c.period_size-skip-end.ensures.value, c.period_size-skip-end.ensures.small.0, c.loop-skip-test.false)
      in
      subst (λ (n : ℕ). IsFirstLeast (IsCostAfter c.args.limit (IsCostAt c.args.rate c.args.invert c.args.t steps
      c.args.soft.now)) n chosen.skip chosen.cost) all (c.loop-skip.invariant.least steps is);
}
