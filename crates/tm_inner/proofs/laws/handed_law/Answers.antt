use Rattle.tm_inner.proofs.HandedAll.{due-then-all}
use Rattle.tm_inner.proofs.laws.handed_law.Goals as goal

pub returns : goal.returns
returns c = due-then-all c.one_windows_law.ensures.exists c.due_windows_law.ensures.first c.phase_law.ensures.exists
    c.phase_law.ensures.one c.closed_prefix_law.ensures c.whole_window_law.ensures.prefix
