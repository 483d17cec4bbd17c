use Rattle.std.proofs.Common.{◌-◌, ◌≤◌, ◌*◌, length}
use Rattle.tm_base.specs.Bits.{bits_of}
use Rattle.tm_buffers.specs.Searching.{Takes}
use Rattle.tm_buffers.proofs.searching.find_in_octets.Given as goal

abbrev pub invariant-loop-search : goal.invariant-loop-search
invariant-loop-search l = record {
  within : l.taken ≤ 8 * length l.octets;
  takes : Takes l.fn.search l.search l.fn.room l.room (bits_of l.octets) l.from l.taken;
}

abbrev pub decreases-loop-search : goal.decreases-loop-search
decreases-loop-search l = 8 * length l.octets - l.taken
