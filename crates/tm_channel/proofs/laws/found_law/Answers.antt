use Rattle.tm_channel.proofs.SoundItems.{received-found, sound-near}
use Rattle.tm_channel.proofs.laws.found_law.Goals as goal

pub returns-clause-found : goal.returns-clause-found
returns-clause-found c = received-found c.inner_law.ensures.one

pub returns-clause-near : goal.returns-clause-near
returns-clause-near c = sound-near
