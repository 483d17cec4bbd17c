use Rattle.tm_windows.proofs.Undisturbed.{complemented-blocks, sure-blocks}
use Rattle.tm_windows.proofs.laws.undisturbed_law.Goals as goal

pub returns-clause-sent : goal.returns-clause-sent
returns-clause-sent c = sure-blocks

pub returns-clause-complemented : goal.returns-clause-complemented
returns-clause-complemented c = complemented-blocks
