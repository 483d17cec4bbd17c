use Rattle.tm_sync.proofs.Rescanned.{places_with-off}
use Rattle.tm_sync.proofs.Prefixes.{places_with-goes_on, places_with-end, places_with-sound}
use Rattle.tm_sync.proofs.laws.rescan_law.Goals as goal

pub returns-clause-off : goal.returns-clause-off
returns-clause-off c = λ rules sound bits. places_with-off rules sound bits

pub returns-clause-prefix : goal.returns-clause-prefix
returns-clause-prefix c = λ rules columns sound bits more fits.
    (places_with-goes_on rules columns sound bits more fits).0

pub returns-clause-within : goal.returns-clause-within
returns-clause-within c = λ rules columns sound bits. places_with-end rules columns sound bits

pub returns-clause-after : goal.returns-clause-after
returns-clause-after c = λ rules columns sound bits more fits.
    (places_with-goes_on rules columns sound bits more fits).1

pub returns-clause-whole : goal.returns-clause-whole
returns-clause-whole c = λ rules columns sound other bits same.
    places_with-sound rules columns sound other bits (λ q inverted from whole. same q inverted whole)
