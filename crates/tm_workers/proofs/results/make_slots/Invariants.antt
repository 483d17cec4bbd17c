use Rattle.std.proofs.Common.{[], ◌≤◌, ◌-◌, vec_capacity}
use Rattle.boxcar.specs.Table.{Tagged}
use Rattle.tm_workers.proofs.results.make_slots.Given as goal

abbrev pub invariant-loop-number : goal.invariant-loop-number
invariant-loop-number g l = record {
  most : l.number ≤ l.n;
  room : l.n ≤ vec_capacity l.slots;
  slots : Tagged [] 0 l.number l.slots.items;
}

abbrev pub decreases-loop-number : goal.decreases-loop-number
decreases-loop-number g l = l.n - l.number
