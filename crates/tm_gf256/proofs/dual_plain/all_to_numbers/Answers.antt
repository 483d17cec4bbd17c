use Rattle.std.proofs.Common.{arith, refl, ◌∙◌}
use Rattle.tm_gf256.specs.Poly.{entry, numbers}
use Rattle.tm_gf256.proofs.Words.{octets_more, all_octets, map-id}
use Rattle.tm_gf256.proofs.dual_plain.all_to_numbers.Goals as goal

pub loop-i-preserved : goal.loop-i-preserved
loop-i-preserved c =
    octets_more (λ u. u) c.args.elements.now c.loop-i.octets c.loop-i.i (entry c.args.elements.now c.loop-i.i)
    (omega arith) (omega arith) refl c.loop-i.invariant

pub returns : goal.returns
returns c =
    all_octets (λ u. u) c.args.elements.now c.loop-i.octets c.loop-i.i (omega arith) (omega arith) c.loop-i.invariant
    ∙ map-id (numbers c.args.elements.now)
