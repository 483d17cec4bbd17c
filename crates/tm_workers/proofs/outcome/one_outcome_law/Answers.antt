use Rattle.tm_workers.proofs.Outcomes.{one_batch, one_erased_batch}
use Rattle.tm_workers.proofs.outcome.one_outcome_law.Goals as goal

pub returns-clause-words : goal.returns-clause-words
returns-clause-words c code repair words a b bound short h k = one_batch code repair words a b bound short h k

pub returns-clause-erased : goal.returns-clause-erased
returns-clause-erased c code repair words a b short flags h k = one_erased_batch code repair words a b short flags h k
