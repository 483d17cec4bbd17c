use Rattle.std.proofs.Common.{◌≡◌, ◌<◌, ◌+◌, ◌*◌, ℕ, length, get_or, drop}
use Rattle.std.specs.Prelude.{bit_xor}
use Rattle.tm_gf256.specs.Poly.{numbers, value_at}
use Rattle.tm_rs_code.specs.Code.{place_of}
use Rattle.tm_rs_code.proofs.lanes.place_values.Given as goal

abbrev pub invariant-loop-i : goal.invariant-loop-i
invariant-loop-i l = record {
  long : length l.sum ≡ 16;
  part : (m : ℕ) → m < 16
      → bit_xor (get_or l.sum m 0) (value_at (numbers (drop l.i l.poly)) (place_of (16 * l.group + m)))
      ≡ value_at (numbers l.poly) (place_of (16 * l.group + m));
  next_long : length l.next ≡ 16;
  next_part : (m : ℕ) → m < 16
      → bit_xor (get_or l.next m 0) (value_at (numbers (drop l.i l.poly)) (place_of (16 * (l.group + 1) + m)))
      ≡ value_at (numbers l.poly) (place_of (16 * (l.group + 1) + m));
}
