use Rattle.std.proofs.Common.{◌≡◌, ◌≤◌, ◌+◌, ◌-◌, ◌++◌, ℕ, List, length, take}
use Rattle.tm_base.specs.Takers.{HandedOver}
use Rattle.tm_viterbi.specs.WindowBlock.{WindowBlock}
use Rattle.tm_windows.specs.Queue.{IsOpen, IsSameQueue, QueueStandsFor, reached}
use Rattle.tm_windows.proofs.decoder.take.Given as goal

abbrev pub invariant-loop-done : goal.invariant-loop-done
invariant-loop-done g l = record {
  within : l.done ≤ length l.piece;
  is_open : IsOpen l.queue;
  same : IsSameQueue l.fn.queue l.queue;
  ended : l.queue.has_ended ≡ l.fn.queue.has_ended;
  counted : reached l.queue ≤ reached l.fn.queue + l.done;
  faults : g.B.BlockTaker.faults l.blocks ≡ g.B.BlockTaker.faults l.fn.blocks;
  handed : (more : List WindowBlock) × HandedOver g.B.BlockTaker.took l.fn.blocks more l.blocks
      × ((given : List ℕ) (done : List WindowBlock) → QueueStandsFor l.fn.queue given done
      → QueueStandsFor l.queue (given ++ take l.done l.piece) (done ++ more));
}

abbrev pub decreases-loop-done : goal.decreases-loop-done
decreases-loop-done g l = length l.piece - l.done
