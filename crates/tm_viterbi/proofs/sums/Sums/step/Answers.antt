use Rattle.std.proofs.Common.{ℕ, ◌+◌, sym, subst}
use Rattle.tm_viterbi.specs.Summing.{Summing, SumsFor}
use Rattle.tm_viterbi.specs.Totals.{StepsTo}
use Rattle.tm_viterbi.proofs.LeastTotals.{SumsFor-more, goal_size}
use Rattle.tm_viterbi.proofs.sums.Sums.step.Goals as goal

pub returns-clause-stands : goal.returns-clause-stands
returns-clause-stands c given stands =
    let s = c.self.inside in
    let P : ℕ → Type 0 = λ v. StepsTo s.rate s.invert (s.first + v) c.args.octets.now s.column c.step.new.sums
    c.step.result in
    SumsFor-more (record {
      rate = s.rate;
      invert = s.invert;
      first = s.first;
      start = s.start;
      steps = s.steps;
      column = s.column;
    }) given c.args.octets.now c.step.new.sums c.step.result
    (subst (λ (v : Summing). SumsFor v given) (sym c.self.view_is) stands)
    (subst P c.from.ensures c.step.ensures.steps)
    (let Q : Summing → Type 0 = λ v. goal_size v c.args.octets.now in subst Q (sym c.self.view_is) c.requires.size)
