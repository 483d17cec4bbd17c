use Rattle.tm_workers.proofs.Schedules.{in_order, each_once, at_most_once, all_below}
use Rattle.tm_workers.proofs.schedule.schedule_law.Goals as goal

pub returns-clause-in_order : goal.returns-clause-in_order
returns-clause-in_order c schedule = in_order schedule

pub returns-clause-each_once : goal.returns-clause-each_once
returns-clause-each_once c schedule x = each_once x schedule

pub returns-clause-at_most_once : goal.returns-clause-at_most_once
returns-clause-at_most_once c schedule n x below = at_most_once x schedule

pub returns-clause-all_below : goal.returns-clause-all_below
returns-clause-all_below c schedule n x long below = all_below x n schedule long below
