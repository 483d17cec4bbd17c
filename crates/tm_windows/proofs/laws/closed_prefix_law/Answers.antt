use Rattle.tm_windows.proofs.FollowedOnce.{followed-prefix}
use Rattle.tm_windows.proofs.laws.closed_prefix_law.Goals as goal

pub returns : goal.returns
returns c = followed-prefix
