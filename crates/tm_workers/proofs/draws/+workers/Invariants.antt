use Rattle.std.proofs.Common.{◌+◌, ◌*◌}
use Rattle.tm_workers.proofs.draws.+workers.Given as goal

abbrev pub decreases-call_each : goal.decreases-call_each
decreases-call_each g l = 4 * l.workers

abbrev pub decreases-call_both : goal.decreases-call_both
decreases-call_both g l = 4 * l.others + 2

abbrev pub decreases-call_both-call_others : goal.decreases-call_both-call_others
decreases-call_both-call_others g l = 4 * l.others + 1
