-- Where the symbols of bits stand that a search has not passed, and of codeblocks that are stored.
use Rattle.std.specs.Prelude.{◌≡◌, ◌==◌, ℕ, ◌+◌, ◌*◌, ◌<◌, ◌≤◌, nat_le, Bool, false, if◌then◌else◌, List, [], ◌∷◌, take, map, ◌⊎◌, Option, Some, None}
use Rattle.std.specs.List.{AllByRecursion}
use Rattle.tm_config.specs.Configuration.{Configuration}
use Rattle.tm_codeblock.specs.ReceivedCodeblock.{rules_of}
use Rattle.tm_conv.specs.Path.{steps_size}
use Rattle.tm_conv.specs.declared.rates.Rate.{Rate}
use Rattle.tm_sync.specs.Places.{settled_by}
use Rattle.tm_channel.specs.Items.{ItemValue}
use Rattle.tm_channel.specs.declared.origins.Origin.{Origin}

-- origins in a room for so many, the newest first
pub record Noted : Type 0 where
  pub origins : List Origin
  pub size : ℕ

-- the origin of a bit: the newest that begins at it or before
abbrev pub origin_at : List Origin → ℕ → ℕ
origin_at [] n = 0
origin_at (origin ∷ origins) n =
    if nat_le origin.first n then origin.octets else origin_at origins n

-- the newest one has so many octets
abbrev pub is_newest : ℕ → List Origin → Bool
is_newest octets [] = false
is_newest octets (origin ∷ origins) = origin.octets == octets

-- the same with another one, where it is another; the oldest goes where the room is full
abbrev pub noted : (first octets : ℕ) → Noted → Noted
noted first octets n = record n {
  origins = if is_newest octets n.origins then n.origins
      else take n.size (record { first = first; octets = octets } ∷ n.origins);
}

-- the symbol of a bit with this origin
abbrev pub symbol_by : Option Rate → Configuration → (origin : ℕ) → ℕ → ℕ
symbol_by None c origin n = c.skip + n
symbol_by (Some rate) c origin n = origin + steps_size rate 0 n

-- where a codeblock stands among the bits, and its marker among the symbols
pub record PlaceSymbol : Type 0 where
  pub place : ℕ
  pub symbol : ℕ

abbrev pub place_symbol : ItemValue → PlaceSymbol
place_symbol item = record { place = item.found.place; symbol = item.symbol }

-- these are the symbols of places among the first bits, so many
abbrev pub AreAt : (at : ℕ → ℕ) → (count : ℕ) → List PlaceSymbol → Type 0
AreAt at count places = AllByRecursion (λ p. (p.symbol ≡ at p.place) × (p.place < count)) places

-- those of a batch are these of items that were handed over, or no item was
abbrev pub AreHandedSymbols : List PlaceSymbol → List PlaceSymbol → List ItemValue → Type 0
AreHandedSymbols before now items = ((items ≡ []) × (now ≡ before))
    ⊎ ((now ≡ []) × (map place_symbol items ≡ before))

-- each begins at least so many bits after the one before it, and the newest as many before this bit
abbrev pub AreSpaced : (keep : ℕ) → (to : ℕ) → List Origin → Type 0
AreSpaced keep to [] = Unit {0}
AreSpaced keep to (origin ∷ origins) = (origin.first + keep ≤ to) × AreSpaced keep origin.first origins

-- so many origins, with windows that keep as many bits as this, reach back over all bits that a
-- search may have to keep
abbrev pub ReachesBack : Configuration → (size : ℕ) → Type 0
ReachesBack c size =
    settled_by (rules_of c).verify (rules_of c).block_bits + c.keep ≤ size * c.keep
