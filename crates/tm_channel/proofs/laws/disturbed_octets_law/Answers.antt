use Rattle.tm_channel.proofs.DisturbedOctets.{accepted, phase-given, inner-bits, units-sent, places-are, column-wrong, units-near, first-sound}
use Rattle.tm_channel.proofs.laws.disturbed_octets_law.Goals as goal

pub returns-clause-accepted : goal.returns-clause-accepted
returns-clause-accepted c = accepted

pub returns-clause-phase : goal.returns-clause-phase
returns-clause-phase c = phase-given

pub returns-clause-inner : goal.returns-clause-inner
returns-clause-inner c = inner-bits

pub returns-clause-sent : goal.returns-clause-sent
returns-clause-sent c = units-sent

pub returns-clause-places : goal.returns-clause-places
returns-clause-places c = places-are

pub returns-clause-wrong : goal.returns-clause-wrong
returns-clause-wrong c = column-wrong

pub returns-clause-near : goal.returns-clause-near
returns-clause-near c = units-near

pub returns-clause-sound : goal.returns-clause-sound
returns-clause-sound c = first-sound
