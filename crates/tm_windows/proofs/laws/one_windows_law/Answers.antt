use Rattle.tm_windows.proofs.FollowedOnce.{followed-none, followed-one}
use Rattle.tm_windows.proofs.FollowedExists.{followed-exists}
use Rattle.tm_windows.proofs.laws.one_windows_law.Goals as goal

pub returns-clause-none : goal.returns-clause-none
returns-clause-none c = followed-none

pub returns-clause-exists : goal.returns-clause-exists
returns-clause-exists c = followed-exists c.best_path_law.ensures.exists

pub returns-clause-one : goal.returns-clause-one
returns-clause-one c = followed-one c.best_path_law.ensures.one
