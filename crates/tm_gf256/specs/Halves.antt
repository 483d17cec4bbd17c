-- Functions of an octet that are the sum of what its halves come to.
use Rattle.std.specs.Prelude.{◌≡◌, ◌<◌, ◌/◌, ◌%◌, ℕ, List, bit_xor, slice_index_or}

-- f of an octet is the sum of entry v % 16 of one table and entry v / 16 of the other
abbrev pub AreHalves : (ℕ → ℕ) → List ℕ → List ℕ → Type 0
AreHalves f low high = (v : ℕ) → v < 256 → bit_xor (slice_index_or low (v % 16) 0)
    (slice_index_or high (v / 16) 0) ≡ f v
