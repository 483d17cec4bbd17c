use Rattle.std.proofs.Common.{◌≡◌, ◌==◌, length, map, take}
use Rattle.tm_conv.specs.Path.{AreBits}
use Rattle.tm_inner.specs.Inner.{nearest_bit}
use Rattle.tm_inner.proofs.nearest.nearest_bits.Given as goal

abbrev pub invariant-loop-k : goal.invariant-loop-k
invariant-loop-k l = record {
  size : length l.bits ≡ length l.octets;
  are_bits : AreBits (take l.k l.bits);
  bits : map (λ bit. bit == 1) (take l.k l.bits) ≡ map (nearest_bit l.config) (take l.k l.octets);
}
