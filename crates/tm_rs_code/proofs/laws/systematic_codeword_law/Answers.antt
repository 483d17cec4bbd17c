use Rattle.tm_rs_code.proofs.Systematic.{systematic_exists, systematic_only}
use Rattle.tm_rs_code.proofs.laws.systematic_codeword_law.Goals as goal

pub returns-clause-exists : goal.returns-clause-exists
returns-clause-exists c e info h = systematic_exists e info h

pub returns-clause-unique : goal.returns-clause-unique
returns-clause-unique c e info w short h = systematic_only e info w short h
