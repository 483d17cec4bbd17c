use Rattle.tm_viterbi.proofs.HasBlocks.{has_blocks}
use Rattle.tm_viterbi.proofs.OneList.{only_list, no_blocks}
use Rattle.tm_viterbi.proofs.laws.one_list_law.Goals as goal

pub returns-clause-none : goal.returns-clause-none
returns-clause-none c s = no_blocks s

pub returns-clause-exists : goal.returns-clause-exists
returns-clause-exists c = has_blocks c.best_path_law.ensures.exists

pub returns-clause-one : goal.returns-clause-one
returns-clause-one c = only_list c.best_path_law.ensures.one
