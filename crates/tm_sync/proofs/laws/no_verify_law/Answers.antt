use Rattle.tm_sync.proofs.Steps.{place_polarity-zero}
use Rattle.tm_sync.proofs.laws.no_verify_law.Goals as goal

pub returns : goal.returns
returns c = λ rules before bits none. place_polarity-zero rules before bits none
