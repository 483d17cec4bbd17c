-- Columns of least costs: what the cheapest path to each register costs.
use Rattle.std.specs.Prelude.{◌≡◌, ℕ, ◌+◌, ◌^◌, ◌<◌, ◌≤◌, Bool, if◌then◌else◌, List, length, slice_index}
use Rattle.tm_conv.specs.declared.rates.Rate.{Rate}
use Rattle.tm_conv.specs.Path.{AreBits, path, register_after, registers}
use Rattle.tm_conv.specs.Cost.{cost}

-- more than a window's path costs
abbrev pub barred_cost : ℕ
barred_cost = 2 ^ 30

-- what a register costs before any step: nothing where a path may start from it, and else that
abbrev pub first_cost : (ℕ → Bool) → ℕ → ℕ
first_cost starts register = if starts register then 0 else barred_cost

-- a path from step t on, from any of the 64 registers, that has as many symbols as there are octets
-- and ends in register `last`
pub record EndsIn (rate : Rate) (invert : Bool) (t : ℕ) (octets : List ℕ) (last initial : ℕ)
    (bits : List ℕ) : Type 0 where
  pub register : initial < registers
  pub each : AreBits bits
  pub covers : length (path rate invert t initial bits) ≡ length octets
  pub ends : register_after initial bits ≡ last

-- what a path costs for the octets, with what its first register costs
abbrev pub total : (ℕ → Bool) → Rate → Bool → ℕ → List ℕ → ℕ → List ℕ → ℕ
total starts rate invert t octets initial bits =
    first_cost starts initial + cost (path rate invert t initial bits) octets

-- a path to register `last` has this total, and none to it has less
pub record IsLeastTo (starts : ℕ → Bool) (rate : Rate) (invert : Bool) (t : ℕ) (octets : List ℕ)
    (last entry : ℕ) : Type 0 where
  pub initial : ℕ
  pub bits : List ℕ
  pub path : EndsIn rate invert t octets last initial bits
  pub reached : total starts rate invert t octets initial bits ≡ entry
  pub least : (other : ℕ) (others : List ℕ) → EndsIn rate invert t octets last other others
      → entry ≤ total starts rate invert t octets other others

-- the column after the octets: the least total of a path to each of the 64 registers
pub record IsColumn (starts : ℕ → Bool) (rate : Rate) (invert : Bool) (t : ℕ)
    (octets column : List ℕ) : Type 0 where
  pub long : length column ≡ registers
  pub each : (last : ℕ) → last < registers → IsLeastTo starts rate invert t octets last
      (slice_index column last)

-- the last step that certificates have, and from which columns are computed; a stream of fewer
-- octets has no step after it
abbrev pub last_certified : ℕ
last_certified = 2 ^ 44
