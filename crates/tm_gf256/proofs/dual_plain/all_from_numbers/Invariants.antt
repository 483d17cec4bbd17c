use Rattle.std.proofs.Common.{◌≡◌, map, take}
use Rattle.tm_gf256.specs.Poly.{numbers}
use Rattle.tm_gf256.proofs.dual_plain.all_from_numbers.Given as goal

abbrev pub invariant-loop-i : goal.invariant-loop-i
invariant-loop-i l = numbers (take l.i l.elements) ≡ map (λ z. z) (take l.i l.octets)
