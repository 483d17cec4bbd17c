-- The block that has given columns.
use Rattle.std.specs.Prelude.{ℕ, ◌*◌, ◌/◌, ◌%◌, List, [], map, slice_index, slice_index_or}
use Rattle.std.specs.List.{range_with_len}
use Rattle.tm_codeblock.specs.Column.{column}

-- `depth` columns of this length, interleaved: symbol m of the block is symbol m / depth of column
-- m % depth
abbrev pub interleaved : ℕ → ℕ → List (List ℕ) → List ℕ
interleaved depth size columns = map (λ m. slice_index (slice_index_or columns (m % depth) [])
    (m / depth)) (range_with_len 0 (depth * size))

-- all columns of a block, in their order
abbrev pub all_columns : ℕ → List ℕ → List (List ℕ)
all_columns depth block = map (λ i. column depth i block) (range_with_len 0 depth)
