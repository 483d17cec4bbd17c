-- The dual basis of CCSDS 131.0-B, Reed-Solomon Coding: an octet for each element of the field.
use Rattle.std.specs.Prelude.{ℕ, zero, suc, ◌+◌, ◌*◌, ◌==◌, find, unwrap_or}
use Rattle.std.specs.List.{range_with_len}
use Rattle.tm_gf256.specs.Field.{plus, times, power}

-- the trace of an element, which is 0 or 1: the sum of its powers 1, 2, 4, .. 128
unfoldable pub trace : ℕ → ℕ
trace v =
    plus v (plus (power v 2) (plus (power v 4) (plus (power v 8)
    (plus (power v 16) (plus (power v 32) (plus (power v 64) (power v 128)))))))

-- bit z_i of the octet of u: the trace of u alpha^(117 i)
unfoldable pub dual_bit : ℕ → ℕ → ℕ
dual_bit u i = trace (times u (power 2 (117 * i)))

-- the bits z_0, the most significant, to z_(k-1) as a number
unfoldable pub dual_bits : ℕ → ℕ → ℕ
dual_bits zero u = 0
dual_bits (suc k) u = 2 * dual_bits k u + dual_bit u k

-- the octet that is sent for u: its bits z_0 to z_7
unfoldable pub dual_octet : ℕ → ℕ
dual_octet u = dual_bits 8 u

-- the element for which the octet z is sent, among all 256
unfoldable pub dual_element : ℕ → ℕ
dual_element z = unwrap_or (find (λ u. dual_octet u == z) (range_with_len 0 256)) 0
