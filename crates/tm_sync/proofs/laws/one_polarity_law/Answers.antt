use Rattle.std.proofs.Common.{arith}
use Rattle.tm_sync.proofs.Matches.{wrong-both}
use Rattle.tm_sync.proofs.laws.one_polarity_law.Goals as goal

pub returns : goal.returns
returns c = λ bits tolerance long few near. let sum = wrong-both bits (omega arith) in omega arith
