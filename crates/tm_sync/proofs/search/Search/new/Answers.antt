use Rattle.std.proofs.Common.{refl}
use Rattle.tm_sync.proofs.Given.{stands_first}
use Rattle.tm_sync.proofs.search.Search.new.Goals as goal

pub returns-clause-stands : goal.returns-clause-stands
returns-clause-stands c = λ room size. stands_first _ room size refl refl refl refl refl refl
