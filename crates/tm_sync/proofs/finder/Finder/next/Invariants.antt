use Rattle.std.proofs.Common.{◌≡◌, length}
use Rattle.tm_sync.specs.Finding.{IsWhole, Passes}
use Rattle.tm_sync.proofs.finder.Finder.next.Given as goal

abbrev pub invariant-loop-self : goal.invariant-loop-self
invariant-loop-self l = record {
  size : l.recent.size ≡ l.fn.recent.size;
  passes : Passes l.fn.self l.self l.fn.recent.bits l.recent.bits;
  whole : IsWhole l.self l.recent.bits;
}

abbrev pub decreases-loop-self : goal.decreases-loop-self
decreases-loop-self l = length l.recent.bits
