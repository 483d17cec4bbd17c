-- The candidate paths for a list of soft octets, and the best of them.
use Rattle.std.specs.Prelude.{◌≡◌, ℕ, ◌/◌, ◌%◌, ◌<◌, ◌≤◌, ◌⊎◌, Bool, List, [], ◌∷◌, ◌++◌, length, reverse, IsTrue}
use Rattle.tm_conv.specs.declared.rates.Rate.{Rate}
use Rattle.tm_conv.specs.Path.{AreBits, path, registers}
use Rattle.tm_conv.specs.Cost.{cost}

-- the bits of a register, from u[-1] to u[-6]
abbrev pub register_bits : ℕ → List ℕ
register_bits register =
    (register / 32 % 2) ∷ (register / 16 % 2) ∷ (register / 8 % 2) ∷ (register / 4 % 2)
    ∷ (register / 2 % 2) ∷ (register % 2) ∷ []

-- a path's bits from the last to the first, and then those of the register it starts from
abbrev pub backwards : ℕ → List ℕ → List ℕ
backwards register bits = reverse bits ++ register_bits register

-- a list comes before another in the order of a dictionary, or is the same
abbrev pub IsLexLe : List ℕ → List ℕ → Type 0
IsLexLe [] ys = Unit {0}
IsLexLe (x ∷ xs) [] = ⊥
IsLexLe (x ∷ xs) (y ∷ ys) = (x < y) ⊎ ((x ≡ y) × IsLexLe xs ys)

-- a path from step t on that starts from one of the registers `starts`, and has as many symbols as
-- there are octets
pub record IsCandidate (starts : ℕ → Bool) (rate : Rate) (invert : Bool) (t : ℕ) (octets : List ℕ)
    (initial : ℕ) (bits : List ℕ) : Type 0 where
  pub start : IsTrue (starts initial)
  pub register : initial < registers
  pub each : AreBits bits
  pub covers : length (path rate invert t initial bits) ≡ length octets

-- no candidate costs less, and of those that cost as little it is the first in the order of a
-- dictionary, read backwards
pub record IsBest (starts : ℕ → Bool) (rate : Rate) (invert : Bool) (t : ℕ) (octets : List ℕ)
    (initial : ℕ) (bits : List ℕ) : Type 0 where
  pub candidate : IsCandidate starts rate invert t octets initial bits
  pub least : (other : ℕ) (others : List ℕ) → IsCandidate starts rate invert t octets other others
      → cost (path rate invert t initial bits) octets
      ≤ cost (path rate invert t other others) octets
  pub first : (other : ℕ) (others : List ℕ) → IsCandidate starts rate invert t octets other others
      → cost (path rate invert t other others) octets
      ≡ cost (path rate invert t initial bits) octets
      → IsLexLe (backwards initial bits) (backwards other others)
