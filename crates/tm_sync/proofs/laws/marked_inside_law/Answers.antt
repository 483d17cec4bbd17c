use Rattle.tm_sync.proofs.MarkedInside.{places-alone, places-clean_inside}
use Rattle.tm_sync.proofs.laws.marked_inside_law.Goals as goal

pub returns-clause-marked : goal.returns-clause-marked
returns-clause-marked c = λ rules columns sound bits entries last marked may empty.
    places-alone rules columns sound bits entries last marked may empty

pub returns-clause-clean : goal.returns-clause-clean
returns-clause-clean c = λ rules columns sound blocks sized enough says.
    places-clean_inside rules columns sound blocks sized enough says
