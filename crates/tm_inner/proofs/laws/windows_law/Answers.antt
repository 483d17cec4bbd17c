use Rattle.tm_inner.proofs.DueWindows.{windows-all, windows-later}
use Rattle.tm_inner.proofs.laws.windows_law.Goals as goal

pub returns-clause-due : goal.returns-clause-due
returns-clause-due c config octets more =
    windows-later c.whole_window_law.ensures.prefix c.phase_law.ensures.one config octets more
    c.due_windows_law.ensures.longer

pub returns-clause-all : goal.returns-clause-all
returns-clause-all c config octets more =
    windows-all c.whole_window_law.ensures.prefix c.phase_law.ensures.one config octets more
    c.closed_prefix_law.ensures c.due_windows_law.ensures.first
