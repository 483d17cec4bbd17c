use Rattle.std.proofs.Common.{◌-◌, ◌≤◌, length}
use Rattle.tm_buffers.specs.Searching.{Takes, bits_in}
use Rattle.tm_buffers.proofs.searching.find_in_bits.Given as goal

abbrev pub invariant-loop-search : goal.invariant-loop-search
invariant-loop-search l = record {
  within : l.end ≤ length l.bits;
  takes : Takes l.fn.search l.search l.fn.room l.room (bits_in l.bits) l.from l.end;
}

abbrev pub decreases-loop-search : goal.decreases-loop-search
decreases-loop-search l = length l.bits - l.end
