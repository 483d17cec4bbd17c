-- What a received codeblock holds, its columns, and the frame that these are repaired to (CCSDS
-- 131.0-B, Pseudo-Randomizer and Reed-Solomon Coding); and where codeblocks stand in bits.
use Rattle.std.specs.Prelude.{ℕ, ◌+◌, ◌*◌, Bool, if◌then◌else◌, List, [], map, take, drop, Option, Some, None}
use Rattle.std.specs.List.{list_all, range_with_len}
use Rattle.tm_base.specs.Bits.{octets_of}
use Rattle.tm_base.specs.Marker.{marker_size}
use Rattle.tm_config.specs.Configuration.{Configuration, correctable, data_length, codeblock_length, is_uncoded, is_sought}
use Rattle.tm_gf256.specs.Octet.{sent_octet, element_of}
use Rattle.tm_codeblock.specs.Column.{column}
use Rattle.tm_codeblock.specs.Interleaved.{interleaved}
use Rattle.tm_codeblock.specs.Masked.{masked}
use Rattle.tm_rs_code.specs.Nearest.{is_correctable}
use Rattle.tm_sync.specs.declared.found.Found.{Found}
use Rattle.tm_sync.specs.declared.found.Columns.{Columns}
use Rattle.tm_sync.specs.Bits.{in_polarity}
use Rattle.tm_sync.specs.Places.{Rules}
use Rattle.tm_sync.specs.Rescan.{Soundness, places_with}

-- how the markers of a configuration's codeblocks are found
abbrev pub rules_of : Configuration → Rules
rules_of c = record {
  tolerance = c.tolerance;
  fly = c.fly;
  either = is_sought c.polarity;
  block_bits = 8 * codeblock_length c;
  verify = c.verify;
}

-- octets with the randomizer taken off, where it is on
abbrev pub unmasked : Configuration → List ℕ → List ℕ
unmasked c octets = if c.randomize then masked octets else octets

-- the codeblock that these bits are, received in this polarity
unfoldable pub codeblock_in : Configuration → Bool → List Bool → List ℕ
codeblock_in c inverted bits = unmasked c (octets_of (in_polarity inverted bits))

-- the codeblock after the marker at a place, received in this polarity
abbrev pub received_codeblock : Configuration → List Bool → ℕ → Bool → List ℕ
received_codeblock c bits place inverted = codeblock_in c inverted
    (take (8 * codeblock_length c) (drop (place + marker_size) bits))

-- that of a place that was found
abbrev pub codeblock_at : Configuration → List Bool → Found → List ℕ
codeblock_at c bits f = received_codeblock c bits f.place f.inverted

-- how many columns a codeblock is repaired as: none with no outer code
abbrev pub column_count : Configuration → ℕ
column_count c = if is_uncoded c.code then 0 else c.depth

-- column i of a codeblock, as elements
abbrev pub received_column : Configuration → List ℕ → ℕ → List ℕ
received_column c codeblock i = map (element_of c.basis) (column c.depth i codeblock)

-- the columns of a codeblock; none with no outer code
unfoldable pub received_columns : Configuration → List ℕ → List (List ℕ)
received_columns c codeblock =
    if is_uncoded c.code
    then []
    else map (received_column c codeblock) (range_with_len 0 c.depth)

-- the octets of a codeword's data
abbrev pub data_octets : Configuration → List ℕ → List ℕ
data_octets c word = map (sent_octet c.basis) (take (data_length c) word)

-- the frame of these codewords: their data, interleaved; with no outer code the codeblock is the
-- frame
unfoldable pub frame_of : Configuration → List ℕ → List (List ℕ) → List ℕ
frame_of c codeblock words =
    if is_uncoded c.code
    then codeblock
    else interleaved c.depth (data_length c) (map (data_octets c) words)

-- ---- where places are looked for inside codeblocks too

-- how the symbols of a codeblock's columns lie, and how many of each column the code corrects
abbrev pub code_columns : Configuration → Columns
code_columns c = record { stride = 8 * c.depth; strength = correctable c.code }

-- what a search knows of them, where it looks inside codeblocks
abbrev pub columns_of : Configuration → Option Columns
columns_of c = if c.rescan then Some (code_columns c) else None

-- whether no column of a codeblock is uncorrectable within the repair bound
abbrev pub is_sound : Configuration → List ℕ → Bool
is_sound c codeblock =
    list_all (is_correctable (correctable c.code) c.repair) (received_columns c codeblock)

-- so of the codeblock after the marker at a place in these bits, received in this polarity
abbrev pub sound_in : Configuration → List Bool → Soundness
sound_in c bits place inverted = is_sound c (received_codeblock c bits place inverted)

-- the places of a configuration's codeblocks in bits
abbrev pub places_in : Configuration → List Bool → List Found
places_in c bits = places_with (rules_of c) (columns_of c) (sound_in c bits) bits
