use Rattle.std.proofs.Common.{◌≡◌, map, take}
use Rattle.tm_gf256.specs.Poly.{numbers}
use Rattle.tm_gf256.specs.Dual.{dual_octet}
use Rattle.tm_gf256.proofs.dual_plain.few_to_dual.Given as goal

abbrev pub invariant-loop-i : goal.invariant-loop-i
invariant-loop-i l = take l.i l.octets ≡ map dual_octet (numbers (take l.i l.elements))
