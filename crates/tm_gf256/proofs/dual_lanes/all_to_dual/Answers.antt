use Rattle.std.proofs.Common.{◌≡◌, ◌≤◌, ◌+◌, ◌-◌, ◌*◌, ◌∙◌, ℕ, ap, sym, arith, length, map, take}
use Rattle.tm_gf256.specs.Poly.{numbers}
use Rattle.tm_gf256.proofs.PolyLemmas.{length-numbers}
use Rattle.tm_gf256.specs.Dual.{dual_octet}
use Rattle.tm_gf256.proofs.Sixteens.{numbers-take, mapped_all, mapped_fewer}
use Rattle.tm_gf256.proofs.dual_lanes.all_to_dual.Goals as goal

pub returns : goal.returns
returns c =
    let xs = numbers c.args.elements.now in
    let n : ℕ = length c.args.elements.now in
    let last : n - 16 ≤ 16 * c.loop-group.group = omega arith in
    let prefix : take (n - 16) c.loop-group.octets ≡ map dual_octet (take (n - 16) xs) =
    mapped_fewer dual_octet xs c.loop-group.octets (n - 16) (16 * c.loop-group.group) last
    (c.loop-group.invariant ∙ ap (map dual_octet) (numbers-take (16 * c.loop-group.group) c.args.elements.now)) in
    mapped_all dual_octet xs c.put_octets-2.new.octets (n - 16 + 16) (omega (arith, length-numbers c.args.elements.now))
    (omega (arith, c.put_octets-2.auto.octets, c.loop-group.auto.octets))
    (c.put_octets-2.ensures (prefix ∙ ap (map dual_octet) (sym (numbers-take (n - 16) c.args.elements.now)))
    ∙ ap (map dual_octet) (numbers-take (n - 16 + 16) c.args.elements.now))
