use Rattle.std.proofs.Common.{◌+◌, ◌*◌}
use Rattle.tm_windows.proofs.looks.+looks.Given as goal

abbrev pub decreases-look_evenly : goal.decreases-look_evenly
decreases-look_evenly g l = 4 * l.workers

abbrev pub decreases-look_both : goal.decreases-look_both
decreases-look_both g l = 4 * l.others + 3

abbrev pub decreases-look_both-look_later : goal.decreases-look_both-look_later
decreases-look_both-look_later g l = 4 * l.others + 1
