use Rattle.std.proofs.Common.{arith, refl, ◌∙◌, get_or}
use Rattle.tm_gf256.proofs.Words.{elements_more, all_elements, map-id}
use Rattle.tm_gf256.proofs.dual_plain.all_from_numbers.Goals as goal

pub loop-i-preserved : goal.loop-i-preserved
loop-i-preserved c =
    elements_more (λ z. z) c.args.octets.now c.loop-i.elements c.loop-i.i
    (record { 0 = get_or c.args.octets.now c.loop-i.i 0 })
    (omega arith) (omega arith) refl c.loop-i.invariant

pub returns : goal.returns
returns c =
    all_elements (λ z. z) c.args.octets.now c.loop-i.elements c.loop-i.i (omega arith) (omega arith) c.loop-i.invariant
    ∙ map-id c.args.octets.now
