use Rattle.tm_rs_code.proofs.HasNearest.{has_nearest_erased}
use Rattle.tm_rs_code.proofs.OnlyNearest.{nearest_erased_only}
use Rattle.tm_rs_code.proofs.laws.nearest_erased_law.Goals as goal

pub returns-clause-exists : goal.returns-clause-exists
returns-clause-exists c e bound erased w = has_nearest_erased e bound erased w

pub returns-clause-one : goal.returns-clause-one
returns-clause-one c e bound erased w a b same short h l = nearest_erased_only e bound erased w a b same short h l
