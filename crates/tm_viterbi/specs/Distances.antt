-- What soft octets cost whatever the path.
use Rattle.std.specs.Prelude.{ℕ, ◌+◌, ◌-◌, List, [], ◌∷◌, min}
use Rattle.tm_conv.specs.Cost.{greatest_octet}

-- of each octet the lesser distance
abbrev pub least_distances : List ℕ → ℕ
least_distances [] = 0
least_distances (octet ∷ octets) = min octet (greatest_octet - octet) + least_distances octets
