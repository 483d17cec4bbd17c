use Rattle.std.proofs.Common.{arith}
use Rattle.tm_viterbi.proofs.Places.{loaded_halves}
use Rattle.tm_viterbi.proofs.narrow_sums.halves_of.Goals as goal

pub returns : goal.returns
returns c = loaded_halves c.args.narrow.now (omega arith)
