use Rattle.std.proofs.Common.{◌≡◌, map, take}
use Rattle.tm_gf256.specs.Poly.{numbers}
use Rattle.tm_gf256.proofs.dual_plain.all_to_numbers.Given as goal

abbrev pub invariant-loop-i : goal.invariant-loop-i
invariant-loop-i l = take l.i l.octets ≡ map (λ u. u) (numbers (take l.i l.elements))
