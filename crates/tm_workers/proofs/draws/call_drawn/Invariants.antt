use Rattle.std.proofs.Common.{◌≡◌, ◌-◌, length}
use Rattle.tm_workers.specs.Seats.{IsOf, numbers, shares_of, limit_of}
use Rattle.tm_workers.proofs.draws.call_drawn.Given as goal

abbrev pub invariant-loop-number : goal.invariant-loop-number
invariant-loop-number g l = record {
  of : IsOf l.tickets l.seat;
  shares : shares_of l.seat ≡ shares_of l.initial.seat;
}

abbrev pub decreases-loop-number : goal.decreases-loop-number
decreases-loop-number g l = limit_of l.tickets - length (numbers l.seat)
