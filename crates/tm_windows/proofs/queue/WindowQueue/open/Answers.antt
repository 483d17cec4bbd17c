use Rattle.std.proofs.Common.{refl, arith}
use Rattle.tm_windows.proofs.Queues.{fresh-stands, fresh-open}
use Rattle.tm_windows.proofs.queue.WindowQueue.open.Goals as goal

pub returns-clause-stands : goal.returns-clause-stands
returns-clause-stands c =
    fresh-stands _ refl c.in-Ok-open.ensures.0 c.undecided.ensures refl c.first_start.ensures.value refl refl refl

pub returns-clause-is_open : goal.returns-clause-is_open
returns-clause-is_open c =
    fresh-open _ (omega (arith, c.requires.keep)) refl c.in-Ok-open.ensures.0 c.undecided.ensures
