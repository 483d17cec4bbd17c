-- What the store of a batch of codeblocks holds.
use Rattle.std.specs.Prelude.{◌≡◌, ℕ, ◌*◌, ◌<◌, if◌then◌else◌, List, [], length, map, take, drop, get_or, unwrap_or}
use Rattle.tm_config.specs.Configuration.{Configuration, codeblock_length}
use Rattle.tm_rs.specs.declared.answers.Answer.{Answer}
use Rattle.tm_rs.specs.declared.answers.Answer.TheVariants.{Beyond}
use Rattle.tm_workers.specs.declared.words.Word.{Word}
use Rattle.tm_codeblock.specs.ReceivedCodeblock.{column_count, received_columns}
use Rattle.tm_channel.specs.ColumnWords.{all_symbols}
use Rattle.tm_channel.specs.Items.{ItemValue, AreNearest, is_given}
use Rattle.tm_channel.specs.Origins.{PlaceSymbol}
use Rattle.tm_channel.specs.Receiving.{AreItemsFor, StoredCodeblock}
use Rattle.tm_channel.specs.declared.slot.Slot.{Slot}

-- the codeblock in a slot, of `size` octets
abbrev pub stored_in : ℕ → Slot → StoredCodeblock
stored_in size slot = record { found = slot.found; codeblock = take size slot.octets }

-- where the codeblock in a slot stands
abbrev pub place_in : Slot → PlaceSymbol
place_in slot = record { place = slot.found.place; symbol = slot.symbol }

-- the item that is written in a slot
abbrev pub item_in : Configuration → Slot → ItemValue
item_in c slot = record {
  found = slot.found;
  symbol = slot.symbol;
  answers = take (column_count c) slot.answers;
  frame = if is_given c (take (column_count c) slot.answers) then take c.frame_length slot.frame
      else [];
}

-- the answers that stand in words
abbrev pub answers_of : List Word → List Answer
answers_of words = map (λ (w : Word). unwrap_or w.answer Beyond) words

-- the words of codeblock `index`, one for each of its `count` columns: those of all codeblocks
-- stand one after the other
abbrev pub words_at : ℕ → List Word → ℕ → List Word
words_at count words index = take count (drop (index * count) words)

-- these words are the columns of a codeblock
abbrev pub IsRead : Configuration → List ℕ → List Word → Type 0
IsRead c codeblock words = all_symbols c words ≡ received_columns c codeblock

-- these words hold the answers for the columns of a codeblock, and what is nearest to these
abbrev pub IsDecoded : Configuration → List ℕ → List Word → Type 0
IsDecoded c codeblock words = AreNearest c (received_columns c codeblock) (answers_of words)
    (all_symbols c words)

-- the octets of a codeblock in the slot of this number
abbrev pub codeblock_in_slot : Configuration → List Slot → ℕ → Slot → List ℕ
codeblock_in_slot c slots index slot = take (codeblock_length c) (get_or slots index slot).octets

-- the words are the columns of the codeblocks in slots
abbrev pub AreRead : Configuration → List Slot → List Word → Type 0
AreRead c slots words = (index : ℕ) (slot : Slot) → index < length slots
    → IsRead c (codeblock_in_slot c slots index slot) (words_at c.depth words index)

-- the words hold what came of the columns of the codeblocks in slots
abbrev pub AreDecoded : Configuration → List Slot → List Word → Type 0
AreDecoded c slots words =
    (index : ℕ) (slot : Slot) → index < length slots
    → IsDecoded c (codeblock_in_slot c slots index slot) (words_at (column_count c) words index)

-- each of these slots holds its codeblock's item
abbrev pub AreItemsIn : Configuration → List Slot → Type 0
AreItemsIn c slots = AreItemsFor c (map (stored_in (codeblock_length c)) slots) (map (item_in c) slots)
