-- The units that `soak` sends. One frame after another takes its draws from one generator: one for
-- each octet of the frame, and then for each column of its codeblock one that says where the
-- changes of the column begin, and one for each change.
use Rattle.std.specs.Prelude.{ℕ, zero, suc, ◌+◌, ◌*◌, ◌%◌, List, [], ◌++◌, map, slice_index, slice_set, bit_xor}
use Rattle.std.specs.List.{range_with_len}
use Rattle.rand_pcg.specs.Lcg.{Lcg, started, advance, increment_of}
use Rattle.rand_pcg.specs.Pcg.{multiplier_64, pcg32}
use Rattle.tm_base.specs.Marker.{marker}
use Rattle.tm_config.specs.Configuration.{Configuration, word_length}
use Rattle.tm_inner.specs.Symbols.{symbols_of_octets}
use Rattle.tm_codeblock.specs.Cadu.{sent_codeblock}

-- the generator of a seed, on stream 0
abbrev pub generator_of : ℕ → Lcg
generator_of seed = started 64 multiplier_64 seed (increment_of 64 0)

-- a generator after `count` draws
abbrev pub drawn : ℕ → Lcg → Lcg
drawn count g = advance 64 multiplier_64 count g

-- draw number `index` of a generator, from 0 on: a word of 32 bits
abbrev pub draw : Lcg → ℕ → ℕ
draw g index = (pcg32 (drawn index g)).0

-- a frame of `count` octets: the low eight bits of a draw each
unfoldable pub drawn_octets : ℕ → Lcg → List ℕ
drawn_octets count g = map (λ index. draw g index % 256) (range_with_len 0 count)

-- octets of which the one at this place is changed
abbrev pub changed : (place change : ℕ) → List ℕ → List ℕ
changed place change octets = slice_set octets place (bit_xor (slice_index octets place) change)

-- A codeblock with `hits` changes in a column. The first draw says at which symbol of the column
-- they begin; they stand one after the other, and after the last symbol they go on at the first.
-- Each has a draw of its own for the bits that it complements, one at least.
unfoldable pub changed_column : Configuration → (column hits : ℕ) → Lcg → List ℕ → List ℕ
changed_column c column zero g codeblock = codeblock
changed_column c column (suc k) g codeblock =
    let first = draw g 0 in
    let own = draw g (k + 1) in
    changed (column + c.depth * ((first + k) % word_length c)) (1 + own % 255)
    (changed_column c column k g codeblock)

-- a codeblock with `hits` changes in each of its first `columns` columns, whose draws stand one
-- after the other
unfoldable pub changed_columns : Configuration → (columns hits : ℕ) → Lcg → List ℕ → List ℕ
changed_columns c zero hits g codeblock = codeblock
changed_columns c (suc column) hits g codeblock = changed_column c column hits (drawn
    (column * (hits + 1)) g) (changed_columns c column hits g codeblock)

-- the unit of a drawn frame: the marker, and its codeblock, changed in each column by the draws
-- after those of the frame
unfoldable pub generated_unit : Configuration → (hits : ℕ) → Lcg → List ℕ
generated_unit c hits g =
    marker ++ changed_columns c c.depth hits (drawn c.frame_length g) (sent_codeblock c
    (drawn_octets c.frame_length g))

-- how many draws a unit takes
abbrev pub draw_count : Configuration → (hits : ℕ) → ℕ
draw_count c hits = c.frame_length + c.depth * (hits + 1)

-- the units of `frames` frames, one after the other, of a generator that runs on over all of them
unfoldable pub generated_units : Configuration → (frames hits : ℕ) → Lcg → List ℕ
generated_units c zero hits g = []
generated_units c (suc frame) hits g = generated_units c frame hits g ++ generated_unit c hits
    (drawn (frame * draw_count c hits) g)

-- what is sent for the units of all frames, through the inner code, which runs on over them too
abbrev pub generated : Configuration → (seed frames hits : ℕ) → List ℕ
generated c seed frames hits = symbols_of_octets c (generated_units c frames hits
    (generator_of seed))
