-- Records of received words, one after the other. A record has an octet for each of the n symbols
-- of a word, and after these a flag for each symbol: 0 where the symbol is good, and any other
-- number where it is erased.
use Rattle.std.specs.Prelude.{◌≡◌, ℕ, ◌*◌, ◌/◌, ◌%◌, ◌==◌, Bool, not, List, [], ◌∷◌, length, map, take, drop}
use Rattle.tm_gf256.specs.Octet.{element_of}
use Rattle.tm_rs_code.specs.Erasures.{IsNearestErased, NearestErased}
use Rattle.tm_records.specs.declared.coding.Coding.{Coding}

-- how many octets a record has
abbrev pub record_size : Coding → ℕ
record_size c = 2 * c.params.n

-- how many records of these octets are whole
abbrev pub record_count : Coding → List ℕ → ℕ
record_count c octets = length octets / record_size c

-- how many octets follow the last whole record
abbrev pub left_over : Coding → List ℕ → ℕ
left_over c octets = length octets % record_size c

-- the word of the first record of these octets
abbrev pub first_word : Coding → List ℕ → List ℕ
first_word c octets = map (element_of c.basis) (take c.params.n octets)

-- which of its symbols are erased
abbrev pub first_erased : Coding → List ℕ → List Bool
first_erased c octets = map (λ flag. not (flag == 0)) (take c.params.n (drop c.params.n octets))

-- this is nearest to the word of the first record
abbrev pub IsFirstNearest : Coding → List ℕ → NearestErased → Type 0
IsFirstNearest c octets nearest = IsNearestErased c.params.e c.repair (first_erased c octets)
    (first_word c octets) nearest

-- each of these is nearest to the word of the record at its place, from the first record on
abbrev pub AreFirstNearest : Coding → List ℕ → List NearestErased → Type 0
AreFirstNearest c octets [] = Unit {0}
AreFirstNearest c octets (nearest ∷ others) = IsFirstNearest c octets nearest
    × AreFirstNearest c (drop (record_size c) octets) others

-- these are nearest to the words of all whole records
pub record AreNearest (c : Coding) (octets : List ℕ) (nearest : List NearestErased) : Type 0 where
  pub each : AreFirstNearest c octets nearest
  pub all : length nearest ≡ record_count c octets

-- the records of a whole batch
abbrev pub most_records : ℕ
most_records = 256

-- how many of `count` records are in whole batches
abbrev pub in_batches : ℕ → ℕ
in_batches count = most_records * (count / most_records)

-- these are nearest to the words of the records that are in whole batches
pub record AreNearestDue (c : Coding) (octets : List ℕ)
    (nearest : List NearestErased) : Type 0 where
  pub each : AreFirstNearest c octets nearest
  pub all : length nearest ≡ in_batches (record_count c octets)
