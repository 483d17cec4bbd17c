-- Rows of powers, by their halves.
use Rattle.std.specs.Prelude.{◌≡◌, ◌<◌, ◌+◌, ◌*◌, ℕ, List, [], slice_index_or}
use Rattle.tm_rs_code.specs.Code.{most_coefficients}
use Rattle.tm_gf256.specs.Field.{power}

-- row k below 33 holds the low halves, and the high halves, of the powers k of sixteen elements
pub record ArePowers (base : ℕ → ℕ) (lows highs : List (List ℕ)) : Type 0 where
  pub low : (k m : ℕ) → k < most_coefficients → m < 16
      → slice_index_or (slice_index_or lows k []) m 0 < 16
  pub high : (k m : ℕ) → k < most_coefficients → m < 16
      → slice_index_or (slice_index_or highs k []) m 0 < 16
  pub each : (k m : ℕ) → k < most_coefficients → m < 16
      → slice_index_or (slice_index_or lows k []) m 0 + 16 * slice_index_or
      (slice_index_or highs k []) m 0 ≡ power (base m) k
