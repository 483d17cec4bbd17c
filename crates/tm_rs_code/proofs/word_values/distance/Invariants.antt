use Rattle.std.proofs.Common.{◌≡◌, ◌≤◌, take}
use Rattle.tm_gf256.specs.Poly.{numbers}
use Rattle.tm_rs_code.specs.Code.{distance as distance_of}
use Rattle.tm_rs_code.proofs.word_values.distance.Given as goal

abbrev pub invariant-loop-i : goal.invariant-loop-i
invariant-loop-i l = record {
  counted : l.count ≡ distance_of (numbers (take l.i l.a)) (numbers (take l.i l.b));
  few : l.count ≤ l.i;
}
