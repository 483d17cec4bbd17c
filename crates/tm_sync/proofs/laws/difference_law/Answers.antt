use Rattle.tm_sync.proofs.Differing.{same-none, none-same, differ-all, places-never}
use Rattle.tm_sync.proofs.laws.difference_law.Goals as goal

pub returns-clause-same : goal.returns-clause-same
returns-clause-same c = λ rules columns sound bits.
    (none-same rules columns sound bits, same-none rules columns sound bits)

pub returns-clause-first : goal.returns-clause-first
returns-clause-first c = λ rules columns sound bits. differ-all rules columns sound bits

pub returns-clause-off : goal.returns-clause-off
returns-clause-off c = λ rules columns bits may. places-never rules columns bits may
