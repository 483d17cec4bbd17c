use Rattle.std.proofs.Common.{sym, arith, []}
use Rattle.tm_conv.proofs.Paths.{steps_size-zero}
use Rattle.tm_viterbi.proofs.Walk.{AreBest-none}
use Rattle.tm_viterbi.proofs.sums.Sums.new.Goals as goal

pub returns-clause-stands : goal.returns-clause-stands
returns-clause-stands c = record {
  size = sym (steps_size-zero c.args.rate c.args.first);
  firsts = c.first_sums.result;
  are_firsts = c.first_sums.ensures;
  survivors = [];
  best = AreBest-none _ c.first_sums.result (λ register below. omega arith);
}
