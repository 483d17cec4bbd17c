use Rattle.std.proofs.Common.{◌≡◌, take}
use Rattle.tm_gf256.specs.Poly.{numbers, value_at}
use Rattle.tm_gf256.proofs.polynomial.eval.Given as goal

abbrev pub invariant-loop-c : goal.invariant-loop-c
invariant-loop-c l = l.value.0 ≡ value_at (numbers (take l.c-index l.poly)) l.x.0
