use Rattle.std.proofs.Common.{◌+◌, ◌-◌, ◌∙◌, ap, arith, length-drop, drop}
use Rattle.std.proofs.lemmas.List.{length-take-le}
use Rattle.tm_viterbi.specs.Distances.{least_distances}
use Rattle.tm_windows.proofs.Phases.{slice-octets_at}
use Rattle.tm_windows.proofs.slipping.excess_at.Goals as goal

pub least_distances-requires : goal.least_distances-requires
least_distances-requires c =
    let from = c.from-from.result in
    let soft = c.args.soft.now in
    omega (
      arith,
      length-take-le (from + c.args.size - from) (drop from soft)
          (omega (arith, length-drop from soft, c.from-from.ensures, c.requires.inside)),
      c.requires.few,
    )

pub returns-clause-value : goal.returns-clause-value
returns-clause-value c = λ rate t steps is.
    let same = slice-octets_at rate t steps c.args.soft.now c.args.skip c.from-from.result c.args.size
    c.from-from.ensures is in
    omega (arith, c.saturating_sub.ensures, c.least_distances.ensures.value ∙ ap least_distances same)
