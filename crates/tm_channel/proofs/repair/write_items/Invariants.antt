use Rattle.std.proofs.Common.{◌≡◌, ◌<◌, ◌≤◌, ℕ, get_or, map}
use Rattle.tm_config.specs.Configuration.{codeblock_length}
use Rattle.tm_channel.specs.Items.{IsItem}
use Rattle.tm_channel.specs.Storing.{codeblock_in_slot, item_in, place_in, stored_in}
use Rattle.tm_channel.specs.declared.slot.Slot.{Slot}
use Rattle.tm_channel.proofs.repair.write_items.Given as goal

abbrev pub invariant-loop-index : goal.invariant-loop-index
invariant-loop-index l = record {
  stored : map (stored_in (codeblock_length l.config)) l.slots
      ≡ map (stored_in (codeblock_length l.config)) l.initial.slots;
  places : map place_in l.slots ≡ map place_in l.initial.slots;
  rest : (j : ℕ) (slot : Slot) → l.index ≤ j → get_or l.slots j slot ≡ get_or l.initial.slots j slot;
  done : (j : ℕ) (slot : Slot) → j < l.index
      → IsItem l.config (get_or l.initial.slots j slot).found (codeblock_in_slot l.config l.initial.slots j slot)
      (item_in l.config (get_or l.slots j slot));
}
