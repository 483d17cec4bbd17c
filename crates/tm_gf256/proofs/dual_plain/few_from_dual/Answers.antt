use Rattle.std.proofs.Common.{arith}
use Rattle.tm_gf256.specs.Dual.{dual_element}
use Rattle.tm_gf256.proofs.Words.{elements_more, all_elements}
use Rattle.tm_gf256.proofs.dual_plain.few_from_dual.Goals as goal

pub loop-i-preserved : goal.loop-i-preserved
loop-i-preserved c =
    elements_more dual_element c.args.octets.now c.loop-i.elements c.loop-i.i c.from_dual.result
    (omega arith) (omega arith) c.from_dual.ensures c.loop-i.invariant

pub returns : goal.returns
returns c =
    all_elements dual_element c.args.octets.now c.loop-i.elements c.loop-i.i (omega arith)
    (omega arith) c.loop-i.invariant
