use Rattle.tm_viterbi.proofs.OneList.{first_blocks, all_but_last, longer_due, no_due}
use Rattle.tm_viterbi.proofs.laws.due_law.Goals as goal

pub returns-clause-none : goal.returns-clause-none
returns-clause-none c s = no_due s

pub returns-clause-first : goal.returns-clause-first
returns-clause-first c = first_blocks c.best_path_law.ensures.one

pub returns-clause-due : goal.returns-clause-due
returns-clause-due c = all_but_last c.best_path_law.ensures.one

pub returns-clause-longer : goal.returns-clause-longer
returns-clause-longer c = longer_due c.best_path_law.ensures.one
