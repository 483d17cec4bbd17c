use Rattle.tm_windows.proofs.Phases.{needed-if_compared, compared-if_needed, IsPhase-prefix}
use Rattle.tm_windows.proofs.phase_laws.whole_window_law.Goals as goal

pub returns-clause-whole : goal.returns-clause-whole
returns-clause-whole c =
    λ rate window octets some. (needed-if_compared rate window octets some, compared-if_needed rate window octets)

pub returns-clause-prefix : goal.returns-clause-prefix
returns-clause-prefix c = IsPhase-prefix
