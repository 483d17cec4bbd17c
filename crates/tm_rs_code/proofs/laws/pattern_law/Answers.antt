use Rattle.tm_rs_code.proofs.Corrections.{pattern_unique}
use Rattle.tm_rs_code.proofs.ErasedWords.{erased_pattern_unique}
use Rattle.tm_rs_code.proofs.laws.pattern_law.Goals as goal

pub returns-clause-one : goal.returns-clause-one
returns-clause-one c e n s v w short hv hw = pattern_unique e n s v w short hv hw

pub returns-clause-one_erased : goal.returns-clause-one_erased
returns-clause-one_erased c e erased s v w short hv hw = erased_pattern_unique e erased s v w short hv hw
