use Rattle.tm_path_cert.proofs.Bounds.{Pass-least}
use Rattle.tm_path_cert.proofs.Decisions.{IsVerdict-exists}
use Rattle.tm_path_cert.proofs.laws.verdict_law.Goals as goal

pub returns-clause-exists : goal.returns-clause-exists
returns-clause-exists c = IsVerdict-exists

pub returns-clause-least : goal.returns-clause-least
returns-clause-least c claim columns metric steps initial others pass covers long candidate =
    Pass-least claim columns metric steps initial others pass long covers candidate
