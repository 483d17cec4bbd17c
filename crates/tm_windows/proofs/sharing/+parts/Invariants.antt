use Rattle.std.proofs.Common.{◌+◌, ◌-◌, ◌*◌, length}
use Rattle.tm_windows.proofs.sharing.+parts.Given as goal

abbrev pub decreases-decode_evenly : goal.decreases-decode_evenly
decreases-decode_evenly g l = 4 * length l.decoders.now

abbrev pub decreases-decode_both : goal.decreases-decode_both
decreases-decode_both g l = 4 * (length l.first.now + length l.others.now) - 1

abbrev pub decreases-decode_both-decode_first : goal.decreases-decode_both-decode_first
decreases-decode_both-decode_first g l = 4 * length l.first.now + 1

abbrev pub decreases-decode_both-decode_other : goal.decreases-decode_both-decode_other
decreases-decode_both-decode_other g l = 4 * length l.others.now + 1
