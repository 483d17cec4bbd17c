use Rattle.tm_viterbi.proofs.CleanBlocks.{are_complemented}
use Rattle.tm_viterbi.proofs.clean_laws.complemented_blocks_law.Goals as goal

pub returns : goal.returns
returns c = are_complemented c.six_pairs_law.ensures c.complement_law.ensures
