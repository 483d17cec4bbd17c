use Rattle.tm_channel.proofs.FirstItems.{due-stand}
use Rattle.tm_channel.proofs.laws.due_items_law.Goals as goal

pub returns : goal.returns
returns c = due-stand c.closed_prefix_law.ensures c.due_windows_law.ensures.first
