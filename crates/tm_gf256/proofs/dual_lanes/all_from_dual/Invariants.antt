use Rattle.std.proofs.Common.{◌≡◌, ◌*◌, map, take}
use Rattle.tm_gf256.specs.Poly.{numbers}
use Rattle.tm_gf256.specs.Dual.{dual_element}
use Rattle.tm_gf256.proofs.dual_lanes.all_from_dual.Given as goal

abbrev pub invariant-loop-group : goal.invariant-loop-group
invariant-loop-group l = numbers (take (16 * l.group) l.elements) ≡ map dual_element (take (16 * l.group) l.octets)
