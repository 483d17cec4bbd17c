use Rattle.tm_windows.proofs.FollowedOnce.{followed-due, followed-first, followed-longer, followed-no_due}
use Rattle.tm_windows.proofs.laws.due_windows_law.Goals as goal

pub returns-clause-none : goal.returns-clause-none
returns-clause-none c = followed-no_due

pub returns-clause-first : goal.returns-clause-first
returns-clause-first c = followed-first c.best_path_law.ensures.one

pub returns-clause-due : goal.returns-clause-due
returns-clause-due c = followed-due c.best_path_law.ensures.one

pub returns-clause-longer : goal.returns-clause-longer
returns-clause-longer c = followed-longer c.best_path_law.ensures.one
