-- The path metric: how far symbols are from soft octets, of which 0 is the surest 0.
use Rattle.std.specs.Prelude.{ℕ, ◌+◌, ◌-◌, ◌==◌, if◌then◌else◌, List, [], ◌∷◌}

-- the greatest soft octet, which is the surest 1
abbrev pub greatest_octet : ℕ
greatest_octet = 255

-- how far a soft octet is from a symbol
abbrev pub distance : ℕ → ℕ → ℕ
distance symbol octet = if symbol == 0 then octet else greatest_octet - octet

-- the sum of the distances of symbols from as many soft octets
abbrev pub cost : List ℕ → List ℕ → ℕ
cost [] octets = 0
cost (symbol ∷ symbols) [] = 0
cost (symbol ∷ symbols) (octet ∷ octets) = distance symbol octet + cost symbols octets

-- the surest soft octets of symbols
abbrev pub sure : List ℕ → List ℕ
sure [] = []
sure (symbol ∷ symbols) = (if symbol == 0 then 0 else greatest_octet) ∷ sure symbols

-- the most that a branch metric is: a step sends two symbols at most
abbrev pub most_branch_metric : ℕ
most_branch_metric = 510
