use Rattle.std.proofs.Common.{◌≡◌, take}
use Rattle.tm_gf256.specs.Poly.{numbers, derivative}
use Rattle.tm_gf256.proofs.polynomial.derivative_into.Given as goal

abbrev pub invariant-loop-place : goal.invariant-loop-place
invariant-loop-place l = numbers (take l.place l.out) ≡ take l.place (derivative (numbers l.poly))
