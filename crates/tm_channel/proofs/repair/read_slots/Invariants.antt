use Rattle.std.proofs.Common.{ℕ, ◌<◌}
use Rattle.tm_channel.specs.Storing.{IsRead, codeblock_in_slot, words_at}
use Rattle.tm_channel.specs.declared.slot.Slot.{Slot}
use Rattle.tm_channel.proofs.repair.read_slots.Given as goal

abbrev pub invariant-loop-index : goal.invariant-loop-index
invariant-loop-index l =
    (j : ℕ) (slot : Slot) → j < l.index
    → IsRead l.config (codeblock_in_slot l.config l.slots j slot) (words_at l.config.depth l.words j)
