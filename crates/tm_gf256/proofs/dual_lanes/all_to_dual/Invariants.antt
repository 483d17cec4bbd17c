use Rattle.std.proofs.Common.{◌≡◌, ◌*◌, map, take}
use Rattle.tm_gf256.specs.Poly.{numbers}
use Rattle.tm_gf256.specs.Dual.{dual_octet}
use Rattle.tm_gf256.proofs.dual_lanes.all_to_dual.Given as goal

abbrev pub invariant-loop-group : goal.invariant-loop-group
invariant-loop-group l = take (16 * l.group) l.octets ≡ map dual_octet (numbers (take (16 * l.group) l.elements))
