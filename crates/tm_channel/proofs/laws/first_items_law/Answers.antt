use Rattle.tm_channel.proofs.FirstItems.{first-stand, prefix-stand}
use Rattle.tm_channel.proofs.laws.first_items_law.Goals as goal

pub returns-clause-feed : goal.returns-clause-feed
returns-clause-feed c = first-stand c.closed_prefix_law.ensures c.due_windows_law.ensures.first

pub returns-clause-finish : goal.returns-clause-finish
returns-clause-finish c = prefix-stand c.inner_law.ensures.one c.inner_law.ensures.blocks
