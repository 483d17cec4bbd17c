use Rattle.std.proofs.Common.{◌≡◌, length}
use Rattle.tm_gf256.specs.Poly.{numbers}
use Rattle.tm_rs_code.specs.PlaceValues.{AreValues}
use Rattle.tm_rs_code.proofs.places.plain_values_at_places.Given as goal

abbrev pub invariant-loop-p : goal.invariant-loop-p
invariant-loop-p l = record { size : length l.values ≡ 256; done : AreValues (numbers l.poly) l.p l.values }
