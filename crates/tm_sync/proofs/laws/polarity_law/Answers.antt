use Rattle.std.proofs.Common.{arith}
use Rattle.tm_sync.proofs.Complemented.{places-complemented, places_with-complemented}
use Rattle.tm_sync.proofs.laws.polarity_law.Goals as goal

pub returns-clause-places : goal.returns-clause-places
returns-clause-places c = λ rules bits either few. places-complemented rules bits either (omega arith)

pub returns-clause-inside : goal.returns-clause-inside
returns-clause-inside c = λ rules columns sound other bits either few same.
    places_with-complemented rules columns sound other bits either (omega arith) same
