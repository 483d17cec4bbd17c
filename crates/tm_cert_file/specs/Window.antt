-- A window of a certificate, and its octets. Of each number the most significant octet comes first.
use Rattle.std.specs.Prelude.{ℕ, zero, suc, ◌+◌, ◌*◌, List, [], ◌∷◌, ◌++◌, take, drop, flat_map, slice_index}
use Rattle.std.specs.Int.{w32, w64, to_be_bytes, from_be_bytes}
use Rattle.tm_conv.specs.declared.rates.Rate.{Rate}
use Rattle.tm_conv.specs.Path.{steps_size, registers}

-- its steps and how many of them are kept, the register its path starts from, what the path costs
-- and its bits, the soft octets of the window, and a column of 64 numbers before its first step and
-- one after each
pub record Window : Type 0 where
  pub steps : ℕ
  pub kept : ℕ
  pub start : ℕ
  pub metric : ℕ
  pub bits : List ℕ
  pub octets : List ℕ
  pub columns : List (List ℕ)

-- what stands before the bits
abbrev pub header_octets : (steps kept start metric : ℕ) → List ℕ
header_octets steps kept start metric = to_be_bytes w32 steps ++ to_be_bytes w32 kept
    ++ start ∷ to_be_bytes w64 metric

abbrev pub column_octets : List ℕ → List ℕ
column_octets column = flat_map (to_be_bytes w32) column

abbrev pub window_octets : Window → List ℕ
window_octets w = header_octets w.steps w.kept w.start w.metric ++ w.bits ++ w.octets
    ++ flat_map column_octets w.columns

-- ---- the window that octets begin with

-- how many octets stand before the bits, and how many a column has
abbrev pub header_size : ℕ
header_size = 17

abbrev pub column_size : ℕ
column_size = 256

abbrev pub steps_in : List ℕ → ℕ
steps_in octets = from_be_bytes w32 octets

abbrev pub kept_in : List ℕ → ℕ
kept_in octets = from_be_bytes w32 (drop 4 octets)

abbrev pub start_in : List ℕ → ℕ
start_in octets = slice_index octets 8

abbrev pub metric_in : List ℕ → ℕ
metric_in octets = from_be_bytes w64 (drop 9 octets)

-- how many octets come before the soft octets, and before the columns, of a window of `steps`
-- steps from step t
abbrev pub bits_end : ℕ → ℕ
bits_end steps = header_size + steps

abbrev pub soft_end : Rate → ℕ → ℕ → ℕ
soft_end rate t steps = bits_end steps + steps_size rate t steps

-- how many octets the window has
abbrev pub window_size : Rate → ℕ → ℕ → ℕ
window_size rate t steps = soft_end rate t steps + column_size * (steps + 1)

-- the most octets of a window of `steps` steps, of which each sends at most two symbols
abbrev pub window_room : ℕ → ℕ
window_room steps = bits_end steps + 2 * steps + column_size * (steps + 1)

abbrev pub bits_in : List ℕ → List ℕ
bits_in octets = take (steps_in octets) (drop header_size octets)

abbrev pub soft_in : Rate → ℕ → List ℕ → List ℕ
soft_in rate t octets = take (steps_size rate t (steps_in octets))
    (drop (bits_end (steps_in octets)) octets)

-- the first values of octets, one after the other: each takes `size` octets, and is read from those
-- that begin with it
unfoldable pub parts_in : {A : Type 0} → (List ℕ → A) → (size count : ℕ) → List ℕ → List A
parts_in read size zero octets = []
parts_in read size (suc count) octets = read octets ∷ parts_in read size count (drop size octets)

-- the first numbers of octets, four octets each, and the first columns
abbrev pub numbers_in : ℕ → List ℕ → List ℕ
numbers_in = parts_in (from_be_bytes w32) 4

abbrev pub columns_in : ℕ → List ℕ → List (List ℕ)
columns_in = parts_in (numbers_in registers) column_size

abbrev pub window_in : Rate → ℕ → List ℕ → Window
window_in rate t octets = record {
  steps = steps_in octets;
  kept = kept_in octets;
  start = start_in octets;
  metric = metric_in octets;
  bits = bits_in octets;
  octets = soft_in rate t octets;
  columns = columns_in (steps_in octets + 1) (drop (soft_end rate t (steps_in octets)) octets);
}
