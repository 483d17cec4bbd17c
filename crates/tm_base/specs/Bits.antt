-- The bits of octets, the most significant bit of each octet first, and octets packed from bits.
use Rattle.std.specs.Prelude.{ℕ, zero, suc, ◌+◌, ◌*◌, ◌/◌, ◌%◌, ◌^◌, ◌<◌, ◌==◌, Bool, true, false, List, [], ◌∷◌, ◌++◌, All}
use Rattle.std.specs.List.{fold}

-- the `count` lowest bits of a number, the most significant of them first
unfoldable pub low_bits : ℕ → ℕ → List Bool
low_bits zero number = []
low_bits (suc count) number = (number / 2 ^ count % 2 == 1) ∷ low_bits count number

-- the eight bits of an octet
abbrev pub bits_of_octet : ℕ → List Bool
bits_of_octet octet = low_bits 8 octet

-- the bits of octets, one octet after another
abbrev pub bits_of : List ℕ → List Bool
bits_of [] = []
bits_of (octet ∷ octets) = bits_of_octet octet ++ bits_of octets

-- a bit as a number
abbrev pub bit_number : Bool → ℕ
bit_number false = 0
bit_number true = 1

-- the number whose binary digits are these bits, the most significant first
abbrev pub number_of : List Bool → ℕ
number_of bits = fold (λ number bit. number * 2 + bit_number bit) 0 bits

-- bits packed to octets, eight at a time; what is left of fewer than eight is dropped
abbrev pub octets_of : List Bool → List ℕ
octets_of (a ∷ b ∷ c ∷ d ∷ e ∷ f ∷ g ∷ h ∷ bits) =
    number_of (a ∷ b ∷ c ∷ d ∷ e ∷ f ∷ g ∷ h ∷ []) ∷ octets_of bits
octets_of _ = []

-- each number is that of an octet
abbrev pub AreOctets : List ℕ → Type 0
AreOctets octets = All (λ octet. octet < 256) octets
