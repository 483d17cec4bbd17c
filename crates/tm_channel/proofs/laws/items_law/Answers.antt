use Rattle.tm_channel.proofs.DroppedItems.{received-dropped}
use Rattle.tm_channel.proofs.HasItems.{has-items}
use Rattle.tm_channel.proofs.ReceivedOctets.{received-only}
use Rattle.tm_channel.proofs.WholeFrames.{received-whole}
use Rattle.tm_channel.proofs.laws.items_law.Goals as goal

pub returns-clause-exists : goal.returns-clause-exists
returns-clause-exists c = has-items c.inner_law.ensures.exists

pub returns-clause-one : goal.returns-clause-one
returns-clause-one c = received-only c.inner_law.ensures.one c.inner_law.ensures.blocks

pub returns-clause-passed : goal.returns-clause-passed
returns-clause-passed c = received-dropped

pub returns-clause-whole : goal.returns-clause-whole
returns-clause-whole c = received-whole
