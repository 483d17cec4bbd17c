use Rattle.std.proofs.Common.{◌+◌, ◌*◌, ◌++◌, ◌∙◌, ap, get_or, arith, take, drop}
use Rattle.tm_viterbi.proofs.Places.{even_lanes, odd_lanes, loaded_halves}
use Rattle.tm_viterbi.proofs.lanes.halves.Goals as goal

pub returns-clause-even : goal.returns-clause-even
returns-clause-even c =
    let xs = c.args.sums.now in
    let h = even_lanes (take 32 (take 32 xs) ++ take 32 (take 32 (drop 32 xs))) in
    record { long = h.long; each = λ i lt. h.each i lt ∙ ap (λ v. get_or v (2 * i) 0) (loaded_halves xs (omega arith)) }

pub returns-clause-odd : goal.returns-clause-odd
returns-clause-odd c =
    let xs = c.args.sums.now in
    let h = odd_lanes (take 32 (take 32 xs) ++ take 32 (take 32 (drop 32 xs))) in
    record {
      long = h.long;
      each = λ i lt. h.each i lt ∙ ap (λ v. get_or v (2 * i + 1) 0)
          (loaded_halves xs (omega arith));
    }
