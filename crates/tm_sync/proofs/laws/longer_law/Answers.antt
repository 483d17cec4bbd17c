use Rattle.tm_sync.proofs.Longer.{places-end, places-goes_on, places-past}
use Rattle.tm_sync.proofs.laws.longer_law.Goals as goal

pub returns-clause-prefix : goal.returns-clause-prefix
returns-clause-prefix c = λ rules bits more. places-goes_on rules bits more

pub returns-clause-within : goal.returns-clause-within
returns-clause-within c = λ rules bits. places-end rules bits

pub returns-clause-after : goal.returns-clause-after
returns-clause-after c = λ rules bits more. places-past rules bits more
