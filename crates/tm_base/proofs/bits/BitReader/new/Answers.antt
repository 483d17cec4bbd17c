use Rattle.std.proofs.Common.{ap, ◌++◌}
use Rattle.tm_base.specs.Bits.{bits_of}
use Rattle.tm_base.proofs.Packing.{low_bits-zero}
use Rattle.tm_base.proofs.bits.BitReader.new.Goals as goal

pub returns : goal.returns
returns c = ap (λ l. l ++ bits_of c.args.octets.now) (low_bits-zero 0)
