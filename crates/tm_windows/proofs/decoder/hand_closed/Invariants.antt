use Rattle.std.proofs.Common.{◌≡◌, ◌≤◌, ◌++◌, ℕ, List, length}
use Rattle.tm_base.specs.Takers.{HandedOver}
use Rattle.tm_viterbi.specs.WindowBlock.{WindowBlock}
use Rattle.tm_windows.specs.Queue.{IsSameQueue, QueueStandsFor, reached}
use Rattle.tm_windows.proofs.decoder.hand_closed.Given as goal

abbrev pub invariant-loop-queue : goal.invariant-loop-queue
invariant-loop-queue g l = record {
  same : IsSameQueue l.fn.queue l.queue;
  ended : l.queue.has_ended ≡ l.fn.queue.has_ended;
  counted : reached l.queue ≤ reached l.fn.queue;
  faults : g.B.BlockTaker.faults l.blocks ≡ g.B.BlockTaker.faults l.fn.blocks;
  handed : (more : List WindowBlock) × HandedOver g.B.BlockTaker.took l.fn.blocks more l.blocks
      × ((given : List ℕ) (done : List WindowBlock) → QueueStandsFor l.fn.queue given done
      → QueueStandsFor l.queue given (done ++ more));
}

abbrev pub decreases-loop-queue : goal.decreases-loop-queue
decreases-loop-queue g l = length l.queue.held
