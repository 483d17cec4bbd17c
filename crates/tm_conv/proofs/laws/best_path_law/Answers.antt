use Rattle.tm_conv.proofs.HasBest.{IsBest-exists}
use Rattle.tm_conv.proofs.Unique.{IsBest-unique}
use Rattle.tm_conv.proofs.laws.best_path_law.Goals as goal

pub returns-clause-exists : goal.returns-clause-exists
returns-clause-exists c = IsBest-exists

pub returns-clause-one : goal.returns-clause-one
returns-clause-one c = IsBest-unique
