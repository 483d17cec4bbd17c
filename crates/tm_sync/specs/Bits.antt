-- Lists of bits that are compared with the attached sync marker.
use Rattle.std.specs.Prelude.{ℕ, ◌+◌, ◌^◌, Bool, true, false, List, ◌∷◌, map}
use Rattle.tm_base.specs.Bits.{bits_of}
use Rattle.tm_base.specs.Marker.{marker}

-- the other bit
abbrev pub flip : Bool → Bool
flip true = false
flip false = true

-- each bit complemented
abbrev pub complement : List Bool → List Bool
complement bits = map flip bits

-- the bits as they are sent in this polarity: as they are, or inverted
abbrev pub in_polarity : Bool → List Bool → List Bool
in_polarity false bits = bits
in_polarity true bits = complement bits

-- whether two bits differ, as 1 or 0
abbrev pub difference : Bool → Bool → ℕ
difference true true = 0
difference true false = 1
difference false true = 1
difference false false = 0

-- the number of places at which two lists of bits differ
abbrev pub differences : List Bool → List Bool → ℕ
differences (x ∷ xs) (y ∷ ys) = difference x y + differences xs ys
differences _ _ = 0

-- the 32 bits of the attached sync marker
abbrev pub marker_bits : List Bool
marker_bits = bits_of marker

-- the most bits that a search is given in all
abbrev pub bits_bound : ℕ
bits_bound = 2 ^ 63
