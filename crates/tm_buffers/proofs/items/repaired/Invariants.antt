use Rattle.std.proofs.Common.{◌≡◌, length, map, take}
use Rattle.tm_buffers.specs.Reports.{repaired_of}
use Rattle.tm_buffers.proofs.items.repaired.Given as goal

abbrev pub invariant-loop-i : goal.invariant-loop-i
invariant-loop-i l =
    (length l.repaired ≡ 8) × (take l.i l.repaired ≡ map repaired_of (take l.i l.answers))
