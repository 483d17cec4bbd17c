use Rattle.std.proofs.Common.{◌≡◌, ◌≤◌, ◌+◌, ◌-◌, ◌*◌, ◌∙◌, ℕ, sym, arith, length, map, take}
use Rattle.tm_gf256.specs.Poly.{numbers}
use Rattle.tm_gf256.proofs.PolyLemmas.{length-numbers}
use Rattle.tm_gf256.specs.Dual.{dual_element}
use Rattle.tm_gf256.proofs.Sixteens.{numbers-take, mapped_all, mapped_fewer}
use Rattle.tm_gf256.proofs.dual_lanes.all_from_dual.Goals as goal

pub returns : goal.returns
returns c =
    let xs = c.args.octets.now in
    let n : ℕ = length xs in
    let last : n - 16 ≤ 16 * c.loop-group.group = omega arith in
    let prefix : take (n - 16) (numbers c.loop-group.elements) ≡ map dual_element (take (n - 16) xs) =
    mapped_fewer dual_element xs (numbers c.loop-group.elements) (n - 16) (16 * c.loop-group.group) last
    (sym (numbers-take (16 * c.loop-group.group) c.loop-group.elements) ∙ c.loop-group.invariant) in
    mapped_all dual_element xs (numbers c.put_elements-2.new.elements) (n - 16 + 16) (omega arith)
    (omega (
      arith,
      length-numbers c.put_elements-2.new.elements,
      c.put_elements-2.auto.elements,
      c.loop-group.auto.elements,
    ))
    (sym (numbers-take (n - 16 + 16) c.put_elements-2.new.elements)
    ∙ c.put_elements-2.ensures (numbers-take (n - 16) c.loop-group.elements ∙ prefix))
