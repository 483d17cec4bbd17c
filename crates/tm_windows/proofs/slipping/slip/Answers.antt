use Rattle.std.proofs.Common.{◌≡◌, ℕ, ◌+◌, ◌*◌, ◌/◌, ◌∙◌, refl, sym, subst, arith, take}
use Rattle.tm_conv.proofs.Sizes.{steps_size-most}
use Rattle.tm_viterbi.specs.Distances.{least_distances}
use Rattle.tm_windows.specs.Phase.{period_size, octets_at, IsCostAt, IsFirstLeast, IsCostAfter}
use Rattle.tm_windows.specs.Slip.{octets_seen, excess, decided, IsSlip}
use Rattle.tm_windows.proofs.Slips.{IsSlip-within, IsSlip-undisturbed, IsSlip-below}
use Rattle.tm_windows.proofs.slipping.slip.Goals as goal

pub cost_at-unmoved-requires-clause-inside : goal.cost_at-unmoved-requires-clause-inside
cost_at-unmoved-requires-clause-inside c = omega (arith, c.requires.octets, c.steps_len-size.ensures)

pub cost_at-unmoved-requires-clause-whole : goal.cost_at-unmoved-requires-clause-whole
cost_at-unmoved-requires-clause-whole c = (c.args.steps, omega (arith, c.requires.steps), c.steps_len-size.ensures)

pub first_least-least-requires-clause-inside : goal.first_least-least-requires-clause-inside
first_least-least-requires-clause-inside c = omega (arith, c.requires.octets, c.steps_len-size.ensures)

pub first_least-least-requires-clause-whole : goal.first_least-least-requires-clause-whole
first_least-least-requires-clause-whole c = (c.args.steps, omega (arith, c.requires.steps), c.steps_len-size.ensures)

pub excess_at-moved-requires-clause-inside : goal.excess_at-moved-requires-clause-inside
excess_at-moved-requires-clause-inside c =
    let least = c.first_least-least.ensures.least c.args.steps c.steps_len-size.ensures in
    omega (arith, c.requires.octets, c.steps_len-size.ensures, least.below)

pub excess_at-moved-requires-clause-few : goal.excess_at-moved-requires-clause-few
excess_at-moved-requires-clause-few c =
    omega (arith, c.requires.steps, c.steps_len-size.ensures, steps_size-most c.args.rate c.args.t c.args.steps)

pub excess_at-still-requires-clause-inside : goal.excess_at-still-requires-clause-inside
excess_at-still-requires-clause-inside c = omega (arith, c.requires.octets, c.steps_len-size.ensures)

pub excess_at-still-requires-clause-few : goal.excess_at-still-requires-clause-few
excess_at-still-requires-clause-few c =
    omega (arith, c.requires.steps, c.steps_len-size.ensures, steps_size-most c.args.rate c.args.t c.args.steps)

pub taken-requires : goal.taken-requires
taken-requires c =
    let least = c.first_least-least.ensures.least c.args.steps c.steps_len-size.ensures in
    let small = c.cost_at-unmoved.ensures.small in (
      omega (
        arith,
        c.excess_at-moved.ensures.less,
        least.least 0 c.min-limit.result (omega (arith, least.below)) refl,
        c.min-limit.ensures,
        small,
      ),
      omega (arith, c.excess_at-still.ensures.less, small),
    )

pub returns-then-still-eq0 : goal.returns-then-still-eq0
returns-then-still-eq0 c =
    let size = c.steps_len-size.ensures in
    let still = c.excess_at-still.ensures.value c.args.rate c.args.t c.args.steps size in
    let is_slip = IsSlip-undisturbed c.best_path_law.ensures.exists c.args.rate c.args.invert c.args.t c.args.steps
    c.args.soft.now c.cost_at-unmoved.result c.requires.octets
    (c.cost_at-unmoved.ensures.cost c.args.steps size) (sym still ∙ c.if-still-eq0.true) in
    record {
      slip = is_slip;
      small = IsSlip-within c.args.rate c.args.invert c.args.t c.args.steps c.args.soft.now 0 is_slip;
    }

pub returns : goal.returns
returns c =
    let size = c.steps_len-size.ensures in
    let soft = c.args.soft.now in
    let found = c.first_least-least.result in
    let unmoved = c.cost_at-unmoved.result in
    let bound = c.cost_bound.result in
    let moved = c.excess_at-moved.ensures.value c.args.rate c.args.t c.args.steps size in
    let still = c.excess_at-still.ensures.value c.args.rate c.args.t c.args.steps size in
    let Cost : ℕ → ℕ → Type 0 = IsCostAt c.args.rate c.args.invert c.args.t c.args.steps soft in
    let is_bound : bound ≡ least_distances (take (octets_seen c.args.rate c.args.t c.args.steps) soft)
    + (3 * excess unmoved (octets_at c.args.rate c.args.t c.args.steps soft 0) + 3) / 4 =
    c.cost_bound.ensures.value
    ∙ (λ i. least_distances (take (c.octets_seen.ensures.value i) soft) + (3 * still i + 3) / 4) in
    let below = subst (λ (n : ℕ). IsFirstLeast (IsCostAfter n Cost) (period_size c.args.rate) found.skip found.cost)
    c.min-limit.ensures (c.first_least-least.ensures.least c.args.steps size) in
    let is_slip : IsSlip c.args.rate c.args.invert c.args.t c.args.steps soft c.taken.result =
    subst (IsSlip c.args.rate c.args.invert c.args.t c.args.steps soft)
    (sym (c.taken.ensures ∙ (λ i. decided found.skip (moved i) (still i))))
    (IsSlip-below c.best_path_law.ensures.exists c.args.rate c.args.invert c.args.t c.args.steps soft found.skip
    found.cost unmoved bound c.requires.octets (c.cost_at-unmoved.ensures.cost c.args.steps size) is_bound below) in
    record {
      slip = is_slip;
      small = IsSlip-within c.args.rate c.args.invert c.args.t c.args.steps soft c.taken.result is_slip;
    }
