use Rattle.std.proofs.Common.{arith}
use Rattle.tm_gf256.specs.Dual.{dual_octet}
use Rattle.tm_gf256.proofs.Words.{octets_more, all_octets}
use Rattle.tm_gf256.proofs.dual_plain.few_to_dual.Goals as goal

pub loop-i-preserved : goal.loop-i-preserved
loop-i-preserved c =
    octets_more dual_octet c.args.elements.now c.loop-i.octets c.loop-i.i c.to_dual.result
    (omega arith) (omega arith) c.to_dual.ensures c.loop-i.invariant

pub returns : goal.returns
returns c =
    all_octets dual_octet c.args.elements.now c.loop-i.octets c.loop-i.i (omega arith) (omega arith) c.loop-i.invariant
