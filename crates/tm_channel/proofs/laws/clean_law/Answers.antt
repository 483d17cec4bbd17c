use Rattle.tm_channel.proofs.CleanTotals.{totals-clean}
use Rattle.tm_channel.proofs.ReceivedOctets.{received-clean, frames-clean}
use Rattle.tm_channel.proofs.SentPhase.{handed-clean, phase-sent}
use Rattle.tm_channel.proofs.laws.clean_law.Goals as goal

pub returns-clause-items : goal.returns-clause-items
returns-clause-items c = received-clean c.clean_inner_law.ensures

pub returns-clause-frames : goal.returns-clause-frames
returns-clause-frames c = frames-clean

pub returns-clause-phase : goal.returns-clause-phase
returns-clause-phase c = phase-sent c.best_path_law.ensures.exists

pub returns-clause-handed : goal.returns-clause-handed
returns-clause-handed c = handed-clean c.best_path_law.ensures.exists (received-clean c.clean_inner_law.ensures)

pub returns-clause-totals : goal.returns-clause-totals
returns-clause-totals c = totals-clean c.best_path_law.ensures.exists c.clean_inner_law.ensures
