use Rattle.std.proofs.Common.{◌≡◌}
use Rattle.tm_gf256.specs.Poly.{numbers, convolution}
use Rattle.tm_gf256.proofs.polynomial.product_coefficient.Given as goal

abbrev pub invariant-loop-i : goal.invariant-loop-i
invariant-loop-i l = l.sum.0 ≡ convolution (numbers l.a) (numbers l.b) l.place l.i
