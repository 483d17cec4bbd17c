use Rattle.std.proofs.Common.{◌+◌, ◌*◌, ◌++◌, ◌∙◌, arith}
use Rattle.std.proofs.lemmas.List.{get_or_append_left}
use Rattle.tm_conv.specs.Path.{c1, c2}
use Rattle.tm_viterbi.proofs.Places.{far_lanes}
use Rattle.tm_viterbi.proofs.lanes.far_metrics.Goals as goal

pub returns : goal.returns
returns c =
    let metrics = c.args.metrics.now in
    let h = far_lanes (metrics ++ metrics) in
    record {
      long = h.long;
      each = λ i lt. h.each i lt ∙ get_or_append_left metrics metrics 0
          (2 * c1 (2 * i + 1) 0 + c2 (2 * i + 1) 0) (omega arith);
    }
