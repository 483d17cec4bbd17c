use Rattle.tm_viterbi.proofs.Halves.{sorted_with}
use Rattle.tm_viterbi.proofs.narrow_metrics.sorted_places.Goals as goal

pub returns : goal.returns
returns c = sorted_with c.args.zero c.requires
