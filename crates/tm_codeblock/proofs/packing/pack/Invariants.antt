use Rattle.std.proofs.Common.{◌≡◌, ◌==◌, ◌*◌, take, map}
use Rattle.tm_base.specs.Bits.{bits_of}
use Rattle.tm_codeblock.proofs.packing.pack.Given as goal

abbrev pub invariant-loop-k : goal.invariant-loop-k
invariant-loop-k l = bits_of (take l.k l.octets) ≡ map (λ bit. bit == 1) (take (8 * l.k) l.bits)
