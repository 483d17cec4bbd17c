use Rattle.std.proofs.Common.{◌+◌, ◌-◌, ◌*◌, length, take}
use Rattle.tm_inner.specs.Handing.{LeavesPhase}
use Rattle.tm_inner.specs.InnerDecoding.{held_in}
use Rattle.tm_inner.specs.InnerWindows.{AreTold}
use Rattle.tm_inner.specs.Receiving.{Hands}
use Rattle.tm_inner.proofs.ReadOctets.{ReadsUp}
use Rattle.tm_inner.proofs.watch.watch_due.Given as goal

abbrev pub invariant-runs : goal.invariant-runs
invariant-runs g l = record {
  reads : ReadsUp g.W.WindowWatch.told l.fn.inner l.inner l.fn.watch l.watch l.octets l.done;
  watched : LeavesPhase g.W.WindowWatch.told
      → Hands g.W.WindowWatch.took AreTold l.fn.inner l.inner l.fn.watch l.watch (take l.done l.octets);
}

abbrev pub decreases-runs : goal.decreases-runs
decreases-runs g l = 2 * (length l.octets - l.done) + length (held_in l.inner.queue)
