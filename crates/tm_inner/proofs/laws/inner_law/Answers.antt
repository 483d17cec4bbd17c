use Rattle.tm_inner.proofs.InnerBits.{has_bits, only_bits, only_blocks}
use Rattle.tm_inner.proofs.laws.inner_law.Goals as goal

pub returns-clause-exists : goal.returns-clause-exists
returns-clause-exists c = has_bits c.one_windows_law.ensures.exists

pub returns-clause-one : goal.returns-clause-one
returns-clause-one c = only_bits c.one_windows_law.ensures.one

pub returns-clause-blocks : goal.returns-clause-blocks
returns-clause-blocks c = only_blocks c.one_windows_law.ensures.one
