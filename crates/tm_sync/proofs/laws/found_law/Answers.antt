use Rattle.tm_sync.proofs.FoundInside.{found-all, order-all, apart-all}
use Rattle.tm_sync.proofs.laws.found_law.Goals as goal

pub returns-clause-found : goal.returns-clause-found
returns-clause-found c = λ rules columns sound bits at inverted alone room match own.
    found-all rules columns sound bits at inverted alone room match own

pub returns-clause-order : goal.returns-clause-order
returns-clause-order c = λ rules columns sound bits. order-all rules columns sound bits

pub returns-clause-apart : goal.returns-clause-apart
returns-clause-apart c = λ rules columns sound bits. apart-all rules columns sound bits
