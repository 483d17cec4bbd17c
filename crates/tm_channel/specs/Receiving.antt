-- What a receiver keeps of the bits that it was given, and which items it has handed over of them.
use Rattle.std.specs.Prelude.{◌≡◌, ℕ, ◌+◌, ◌-◌, ◌*◌, ◌/◌, ◌<◌, ◌≤◌, Bool, true, List, [], ◌∷◌, ◌++◌, length, take, drop, map, get_or, nat_lt, if◌then◌else◌, ◌⊎◌, Option, Some, None}
use Rattle.tm_base.specs.Marker.{marker_size}
use Rattle.tm_config.specs.Configuration.{Configuration, codeblock_length}
use Rattle.tm_sync.specs.declared.found.Columns.{Columns}
use Rattle.tm_sync.specs.declared.found.Found.{Found}
use Rattle.tm_sync.specs.Places.{settled_by}
use Rattle.tm_sync.specs.Rescan.{reach}
use Rattle.tm_sync.specs.Finding.{Finding, Recent, IsWhole, places_left}
use Rattle.tm_codeblock.specs.ReceivedCodeblock.{rules_of, codeblock_in, columns_of, places_in, sound_in}
use Rattle.tm_channel.specs.Items.{ItemValue, IsItem}
use Rattle.tm_channel.specs.Due.{due, due_count}
use Rattle.tm_channel.specs.Origins.{PlaceSymbol}

-- ---- what is stored

-- a codeblock that is whole, as octets, in its polarity and with the randomizer taken off
pub record StoredCodeblock : Type 0 where
  pub found : Found
  pub codeblock : List ℕ

-- the codeblock of a place, whose bits are these
abbrev pub stored_of : Configuration → Found → List Bool → StoredCodeblock
stored_of c f bits = record { found = f; codeblock = codeblock_in c f.inverted bits }

-- the codeblock of a place in these bits
abbrev pub stored_at : Configuration → List Bool → Found → StoredCodeblock
stored_at c bits f = stored_of c f
    (take (8 * codeblock_length c) (drop (f.place + marker_size) bits))

-- the item of a codeblock that is stored
abbrev pub IsItemAt : Configuration → List StoredCodeblock → ℕ → ItemValue → Type 0
IsItemAt c stored index item = (k : StoredCodeblock) × (get_or stored index k ≡ k)
    × IsItem c k.found k.codeblock item

-- an item for each codeblock that is stored
abbrev pub AreItemsFor : Configuration → List StoredCodeblock → List ItemValue → Type 0
AreItemsFor c [] [] = Unit {0}
AreItemsFor c (k ∷ stored) (item ∷ items) =
    IsItem c k.found k.codeblock item × AreItemsFor c stored items
AreItemsFor c stored items = ⊥

-- A batch that is full was handed over, and none of it is stored; one that is not full stays as it
-- was.
abbrev pub IsHanded : Configuration → List StoredCodeblock → List StoredCodeblock → List ItemValue
    → Type 0
IsHanded c before stored items =
    ((length before < c.batch) × (stored ≡ before) × (items ≡ []))
    ⊎ ((length before ≡ c.batch) × (stored ≡ []) × AreItemsFor c before items)

-- what contracts see of a batch of codeblocks: those that are stored, their symbols, and the items
-- that were written when these were repaired
pub record Batching : Type 0 where
  pub config : Configuration
  pub stored : List StoredCodeblock
  pub symbols : List PlaceSymbol
  pub items : List ItemValue

-- each is repaired as it is stored, where places are looked for inside codeblocks
abbrev pub AreWritten : Batching → Type 0
AreWritten b = b.config.rescan ≡ true → AreItemsFor b.config b.stored b.items

-- Of these bits a search found these places, the first ones, and has not passed these bits, the
-- last ones; the items of the first `handed` places were handed over, and the codeblocks of the
-- others are stored. Whatever bits come, the further places are those that the search finds in what
-- it has not passed.
pub record Holding (c : Configuration) (s : Finding) (recent : List Bool)
    (stored : List StoredCodeblock) (handed : ℕ) (bits : List Bool) (found : List Found)
    : Type 0 where
  pub passed : s.passed ≤ length bits
  pub left : recent ≡ drop s.passed bits
  pub places : (more : List Bool) → places_in c (bits ++ more)
      ≡ found ++ places_left s (sound_in c (bits ++ more)) (recent ++ more)
  pub within : handed ≤ length found
  pub waiting : stored ≡ map (stored_at c bits) (drop handed found)

-- these bits were given to a search with its room and to a batch, and the search found these of
-- their places
abbrev pub HoldsFound : Finding → Recent → Batching → ℕ → List Bool → List Found → Type 0
HoldsFound s room b handed bits found =
    Holding b.config s room.bits b.stored handed bits found

-- it found all of their places
abbrev pub Holds : Finding → Recent → Batching → ℕ → List Bool → Type 0
Holds s room b handed bits = HoldsFound s room b handed bits (places_in b.config bits)

-- then `more` bits were given too, of which the search passed none yet
abbrev pub HoldsMore : Finding → Recent → Batching → ℕ → List Bool → List Bool → Type 0
HoldsMore s room b handed bits more =
    HoldsFound s room b handed (bits ++ more) (places_in b.config bits)

-- These bits were given to a search and a batch, which was handed over whenever it was full. The
-- search may not have passed the last ones, where these make nothing due.
pub record Stands (s : Finding) (room : Recent) (b : Batching) (bits : List Bool) : Type 0 where
  pub first : List Bool
  pub more : List Bool
  pub are : bits ≡ first ++ more
  pub holds : HoldsMore s room b (due_count b.config first) first more
  pub same : due b.config bits ≡ due b.config first

-- the most octets that bits are packed to at a time
abbrev pub run_size : ℕ
run_size = 256

-- a search, its room and a batch agree, whatever bits were given; the room has some octets more
-- than the search may have to keep
pub record Agree (s : Finding) (room : Recent) (b : Batching) : Type 0 where
  pub rules : s.rules ≡ rules_of b.config
  pub columns : s.columns ≡ columns_of b.config
  pub whole : IsWhole s room.bits
  pub sized : settled_by s.rules.verify s.rules.block_bits + 8 * run_size + 14 ≤ 8 * room.size
  pub written : AreWritten b

-- a search keeps fewer bits, once it has passed all that it can
abbrev pub IsShort : Finding → Recent → Type 0
IsShort s room = length room.bits < settled_by s.rules.verify s.rules.block_bits

-- they agree, the search has passed all that it can, and the batch is not full
pub record IsReady (s : Finding) (room : Recent) (b : Batching) : Type 0 where
  pub agree : Agree s room b
  pub short : IsShort s room
  pub few : length b.stored < b.config.batch

-- they agree, there is room for as many octets as bits are packed to at a time, and the batch is
-- not full; the search may have bits to pass
pub record Fills (s : Finding) (room : Recent) (b : Batching) : Type 0 where
  pub agree : Agree s room b
  pub free : length room.bits + 8 * run_size + 7 ≤ 8 * room.size
  pub few : length b.stored < b.config.batch

-- the fewest bits that `count` codeblocks have with their markers: two may lie nearly in the room
-- of one, where they are looked for inside others
abbrev pub least_bits_at : Option Columns → ℕ → ℕ → ℕ
least_bits_at None unit count = count * unit
least_bits_at (Some columns) unit count =
    unit + (count - 1) / 2 * (unit - reach columns + 1)

abbrev pub least_bits : Configuration → ℕ → ℕ
least_bits c = least_bits_at (columns_of c) (marker_size + (rules_of c).block_bits)

-- the most bits that may be buffered where a batch lacks `count` codeblocks: as many as these have
-- at least with their markers, and none where one worker decodes
abbrev pub waiting_bits : Configuration → ℕ → ℕ
waiting_bits c count = if nat_lt 1 c.workers then least_bits c count else 0

-- ---- bits that are taken

-- the most octets that go through both stages at a time
abbrev pub piece_size : ℕ
piece_size = 4096
