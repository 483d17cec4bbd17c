-- What soft octets say against the symbols of a path.
use Rattle.std.specs.Prelude.{ℕ, ◌+◌, ◌*◌, ◌≤◌, nat_le, Bool, List, [], ◌∷◌, length, sum, sum_by, count_by}
use Rattle.tm_conv.specs.Cost.{distance, greatest_octet}
use Rattle.tm_conv.specs.declared.counts.SymbolCounts.{SymbolCounts}

-- how far soft octets are from as many symbols, each from its own
abbrev pub distances : List ℕ → List ℕ → List ℕ
distances [] octets = []
distances (symbol ∷ symbols) [] = []
distances (symbol ∷ symbols) (octet ∷ octets) = distance symbol octet ∷ distances symbols octets

-- nearer to the other symbol: no octet is as near to both, since 255 is odd
abbrev pub is_wrong : ℕ → Bool
is_wrong far = nat_le 128 far

abbrev pub square : ℕ → ℕ
square far = far * far

-- of no octet
abbrev pub none_counted : SymbolCounts
none_counted = record { octets = 0; wrong = 0; distance = 0; squares = 0 }

-- how many octets, how many of them nearer to the other symbol, and the sums of their distances and
-- of the squares of these
abbrev pub counts_by : List ℕ → SymbolCounts
counts_by far = record {
  octets = length far;
  wrong = count_by is_wrong far;
  distance = sum far;
  squares = sum_by square far;
}

abbrev pub counts_of : (symbols octets : List ℕ) → SymbolCounts
counts_of symbols octets = counts_by (distances symbols octets)

-- with octets at these distances more
abbrev pub added : SymbolCounts → List ℕ → SymbolCounts
added counts far = record {
  octets = counts.octets + length far;
  wrong = counts.wrong + count_by is_wrong far;
  distance = counts.distance + sum far;
  squares = counts.squares + sum_by square far;
}

-- these are of at most `most` octets
abbrev pub AreFew : ℕ → SymbolCounts → Type 0
AreFew most counts = (counts.octets ≤ most) × (counts.wrong ≤ most)
    × (counts.distance ≤ greatest_octet * most) × (counts.squares ≤ square greatest_octet * most)
