use Rattle.tm_viterbi.proofs.CleanBlocks.{are_clean}
use Rattle.tm_viterbi.proofs.clean_laws.clean_blocks_law.Goals as goal

pub returns : goal.returns
returns c = are_clean c.six_pairs_law.ensures
