use Rattle.std.proofs.Common.{◌≡◌, ◌<◌, ◌+◌, ◌*◌, ℕ, length, get_or}
use Rattle.tm_gf256.specs.Poly.{numbers, value_at}
use Rattle.tm_rs_code.specs.Code.{place_of}
use Rattle.tm_rs_code.proofs.lanes.store_values.Given as goal

abbrev pub invariant-loop-pair : goal.invariant-loop-pair
invariant-loop-pair l = record {
  size : length l.out ≡ length l.initial.out;
  done : (i : ℕ) → i < 32 * l.pair → get_or l.out i 0 ≡ value_at (numbers l.poly) (place_of (16 * l.first + i));
}
