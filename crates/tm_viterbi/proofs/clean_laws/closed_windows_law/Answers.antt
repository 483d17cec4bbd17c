use Rattle.tm_viterbi.proofs.ClosedPrefix.{first-longer}
use Rattle.tm_viterbi.proofs.clean_laws.closed_windows_law.Goals as goal

pub returns : goal.returns
returns c = first-longer
