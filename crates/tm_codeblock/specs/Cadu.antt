-- The channel access data unit of a transfer frame: its codeblock after the attached sync marker
-- (CCSDS 131.0-B, Reed-Solomon Coding, Pseudo-Randomizer and Frame Synchronization).
use Rattle.std.specs.Prelude.{ℕ, ◌+◌, if◌then◌else◌, List, ◌++◌, map}
use Rattle.std.specs.List.{range_with_len}
use Rattle.tm_base.specs.Marker.{marker, marker_octets}
use Rattle.tm_config.specs.Configuration.{Configuration, correctable, is_uncoded, word_length, longest_codeblock, codeblock_length}
use Rattle.tm_gf256.specs.Octet.{sent_octet, element_of}
use Rattle.tm_gf256.specs.declared.basis.Basis.{Basis}
use Rattle.tm_codeblock.specs.Column.{column}
use Rattle.tm_codeblock.specs.Interleaved.{interleaved}
use Rattle.tm_codeblock.specs.Masked.{masked}
use Rattle.tm_rs_code.specs.Code.{encode_word}

-- the octets of the systematic codeword, of the code that corrects e symbols, that begins with
-- these octets
unfoldable pub coded_octets : Basis → ℕ → List ℕ → List ℕ
coded_octets basis e octets = map (sent_octet basis) (encode_word e (map (element_of basis) octets))

-- column i of a frame's codeblock: the codeword of the frame's column i
abbrev pub coded_column : Configuration → List ℕ → ℕ → List ℕ
coded_column c frame i = coded_octets c.basis (correctable c.code) (column c.depth i frame)

-- the codeblock of a frame: its coded columns, interleaved, or with no outer code the frame
unfoldable pub codeblock_of : Configuration → List ℕ → List ℕ
codeblock_of c frame =
    if is_uncoded c.code
    then frame
    else interleaved c.depth (word_length c) (map (coded_column c frame) (range_with_len 0 c.depth))

-- the codeblock as it is sent: randomized from its first bit on, where that is on
abbrev pub sent_codeblock : Configuration → List ℕ → List ℕ
sent_codeblock c frame = if c.randomize then masked (codeblock_of c frame) else codeblock_of c frame

-- the unit: the marker, which is neither coded nor randomized, and the codeblock
unfoldable pub cadu : Configuration → List ℕ → List ℕ
cadu c frame = marker ++ sent_codeblock c frame

-- how many a unit has: the marker's, and those of the codeblock
abbrev pub unit_size : Configuration → ℕ
unit_size c = codeblock_length c + marker_octets

-- the most that one has
abbrev pub longest_cadu : ℕ
longest_cadu = marker_octets + longest_codeblock
