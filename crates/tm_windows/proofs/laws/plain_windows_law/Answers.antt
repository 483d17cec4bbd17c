use Rattle.tm_windows.proofs.PlainWindows.{plain-blocks, plain-due, plain-first}
use Rattle.tm_windows.proofs.laws.plain_windows_law.Goals as goal

pub returns-clause-blocks : goal.returns-clause-blocks
returns-clause-blocks c = plain-blocks c.best_path_law.ensures.exists c.best_path_law.ensures.one

pub returns-clause-due : goal.returns-clause-due
returns-clause-due c = plain-due

pub returns-clause-first : goal.returns-clause-first
returns-clause-first c = plain-first
