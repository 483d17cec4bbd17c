use Rattle.std.proofs.Common.{◌≡◌, suc, map, take}
use Rattle.std.specs.List.{range_with_len}
use Rattle.tm_gf256.specs.Poly.{numbers, convolution}
use Rattle.tm_gf256.proofs.polynomial.mul_into.Given as goal

abbrev pub invariant-loop-place : goal.invariant-loop-place
invariant-loop-place l =
    numbers (take l.place l.out) ≡ map (λ m. convolution (numbers l.a) (numbers l.b) m (suc m))
    (range_with_len 0 l.place)
