use Rattle.tm_windows.proofs.Slips.{IsSlip-exists, IsSlip-one, IsSlip-within, IsSlip-prefix, IsSlip-sure}
use Rattle.tm_windows.proofs.phase_laws.slip_law.Goals as goal

pub returns-clause-exists : goal.returns-clause-exists
returns-clause-exists c = IsSlip-exists c.best_path_law.ensures.exists

pub returns-clause-one : goal.returns-clause-one
returns-clause-one c = IsSlip-one

pub returns-clause-within : goal.returns-clause-within
returns-clause-within c = IsSlip-within

pub returns-clause-prefix : goal.returns-clause-prefix
returns-clause-prefix c = IsSlip-prefix

pub returns-clause-sure : goal.returns-clause-sure
returns-clause-sure c = IsSlip-sure
