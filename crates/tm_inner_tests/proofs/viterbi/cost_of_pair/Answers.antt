use Rattle.std.proofs.Common.{◌≡◌, ◌∙◌, refl, sym, arith, length}
use Rattle.tm_conv.specs.declared.rates.Rate.TheVariants.{R12}
use Rattle.tm_conv.specs.Path.{steps_size}
use Rattle.tm_inner_tests.proofs.viterbi.cost_of_pair.Goals as goal

one_step : steps_size R12 0 1 ≡ 2
unfolding steps_size
one_step = refl

pub least_cost-requires : goal.least_cost-requires
least_cost-requires c =
    let long : length c.args.pair ≡ 2 = omega arith in
    (1, omega arith, long ∙ sym one_step)
