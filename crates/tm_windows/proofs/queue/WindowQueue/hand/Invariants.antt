use Rattle.std.proofs.Common.{◌≡◌, take}
use Rattle.tm_base.specs.Takers.{HandedOver}
use Rattle.tm_windows.proofs.queue.WindowQueue.hand.Given as goal

abbrev pub invariant-loop-index : goal.invariant-loop-index
invariant-loop-index g l = record {
  faults : g.B.BlockTaker.faults l.blocks ≡ g.B.BlockTaker.faults l.fn.blocks;
  handed : HandedOver g.B.BlockTaker.took l.fn.blocks (take l.index l.self.ready) l.blocks;
}
