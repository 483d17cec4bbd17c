use Rattle.tm_inner.proofs.DueBits.{bits-first}
use Rattle.tm_inner.proofs.laws.due_bits_law.Goals as goal

pub returns : goal.returns
returns c = bits-first c.closed_prefix_law.ensures c.due_windows_law.ensures.first
