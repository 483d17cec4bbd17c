use Rattle.std.proofs.Common.{◌≡◌, ◌==◌, take, map}
use Rattle.tm_base.specs.Bits.{low_bits}
use Rattle.tm_codeblock.proofs.packing.octet_of.Given as goal

abbrev pub invariant-loop-k : goal.invariant-loop-k
invariant-loop-k l = low_bits l.k l.octet ≡ map (λ bit. bit == 1) (take l.k l.bits)
