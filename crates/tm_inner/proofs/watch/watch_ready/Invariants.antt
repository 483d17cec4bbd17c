use Rattle.std.proofs.Common.{map, take}
use Rattle.tm_base.specs.Handed.{Item}
use Rattle.tm_base.specs.Takers.{HandedOver}
use Rattle.tm_inner.specs.InnerDecoding.{ready_in}
use Rattle.tm_inner.specs.InnerWindows.{windows_from}
use Rattle.tm_inner.proofs.watch.watch_ready.Given as goal

abbrev pub invariant-loop-index : goal.invariant-loop-index
invariant-loop-index g l = record {
  windows : HandedOver g.W.WindowWatch.took l.initial.watch (windows_from l.inner 0 l.index) l.watch;
  blocks : HandedOver g.W.WindowWatch.told l.initial.watch (map Item (take l.index (ready_in l.inner.queue))) l.watch;
}
