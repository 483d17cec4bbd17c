use Rattle.tm_windows.proofs.Phases.{IsPhase-exists, IsPhase-one, IsPhase-within}
use Rattle.tm_windows.proofs.phase_laws.phase_law.Goals as goal

pub returns-clause-exists : goal.returns-clause-exists
returns-clause-exists c = IsPhase-exists c.best_path_law.ensures.exists

pub returns-clause-one : goal.returns-clause-one
returns-clause-one c = IsPhase-one

pub returns-clause-within : goal.returns-clause-within
returns-clause-within c = IsPhase-within
