use Rattle.std.proofs.Common.{◌≡◌, ◌++◌, length, take}
use Rattle.tm_base.specs.Bits.{bits_of, low_bits}
use Rattle.tm_sync.proofs.recent_bits.join.Given as goal

abbrev pub invariant-loop-k : goal.invariant-loop-k
invariant-loop-k l = record {
  length : length l.joint ≡ length l.octets;
  bits : low_bits l.count l.begun ++ bits_of (take l.k l.octets)
      ≡ bits_of (take l.k l.joint) ++ low_bits l.count l.last;
}
