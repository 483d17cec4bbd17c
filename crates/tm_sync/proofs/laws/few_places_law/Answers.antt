use Rattle.tm_sync.proofs.Longer.{places-few, places-room}
use Rattle.tm_sync.proofs.FewInside.{few-all, few-more}
use Rattle.tm_sync.proofs.laws.few_places_law.Goals as goal

pub returns-clause-all : goal.returns-clause-all
returns-clause-all c = λ rules bits. places-room rules bits

pub returns-clause-more : goal.returns-clause-more
returns-clause-more c = λ rules bits more count short. places-few rules bits more count short

pub returns-clause-all_inside : goal.returns-clause-all_inside
returns-clause-all_inside c = λ rules columns sound bits count short. few-all rules columns sound bits count short

pub returns-clause-more_inside : goal.returns-clause-more_inside
returns-clause-more_inside c = λ rules columns sound bits more count fits short.
    few-more rules columns sound bits more count fits short
