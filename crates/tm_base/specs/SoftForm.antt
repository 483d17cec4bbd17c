-- The two forms of soft octets.
use Rattle.std.specs.Prelude.{ℕ, ◌+◌, ◌%◌, Bool, List, map, if◌then◌else◌}

-- an octet, signed or not, as one of which 0 is the surest 0 and 255 the surest 1; signed these are
-- -128 and 127, in two's complement
abbrev pub unsigned_value : Bool → ℕ → ℕ
unsigned_value is_signed octet = if is_signed then (octet + 128) % 256 else octet

-- octets, signed or not, as unsigned ones
abbrev pub from_form : Bool → List ℕ → List ℕ
from_form is_signed octets = map (λ octet. unsigned_value is_signed octet) octets
