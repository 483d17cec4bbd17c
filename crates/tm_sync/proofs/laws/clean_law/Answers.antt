use Rattle.tm_sync.proofs.CleanStreams.{clean-marked, places-clean, places-too_few}
use Rattle.tm_sync.proofs.laws.clean_law.Goals as goal

pub returns-clause-marked : goal.returns-clause-marked
returns-clause-marked c = λ rules blocks sized enough. clean-marked rules blocks sized enough

pub returns-clause-places : goal.returns-clause-places
returns-clause-places c = λ rules blocks sized enough. places-clean rules blocks sized enough

pub returns-clause-few : goal.returns-clause-few
returns-clause-few c = λ rules blocks sized fewer. places-too_few rules blocks sized fewer
