-- The attached sync marker (CCSDS 131.0-B, Frame Synchronization), which stands before each
-- codeblock.
use Rattle.std.specs.Prelude.{ℕ, List, [], ◌∷◌}

-- the four octets of the attached sync marker, in the order sent
abbrev pub marker : List ℕ
marker = 0x1A ∷ 0xCF ∷ 0xFC ∷ 0x1D ∷ []

-- how many octets it has
abbrev pub marker_octets : ℕ
marker_octets = 4

-- how many bits it has
abbrev pub marker_size : ℕ
marker_size = 32

-- the most of its bits that may be wrong
abbrev pub most_tolerance : ℕ
most_tolerance = 8
