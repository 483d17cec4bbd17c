use Rattle.tm_channel.proofs.ReceivedOctets.{received-as_sent, received-frames}
use Rattle.tm_channel.proofs.laws.disturbed_law.Goals as goal

pub returns-clause-items : goal.returns-clause-items
returns-clause-items c = received-as_sent c.inner_law.ensures.one

pub returns-clause-frames : goal.returns-clause-frames
returns-clause-frames c = received-frames c.inner_law.ensures.one
