use Rattle.std.proofs.Common.{◌<◌, [], length}
use Rattle.tm_channel.specs.Receiving.{Agree}
use Rattle.tm_channel.specs.OctetReceiving.{Gathered, Receives}
use Rattle.tm_channel.proofs.Settling.{Settling}
use Rattle.tm_channel.proofs.bit_receiver.BitReceiver.keep_all.Given as goal

abbrev pub invariant-loop-self : goal.invariant-loop-self
invariant-loop-self g l = record {
  agree : Agree l.self.finder l.self.recent l.self.batch;
  few : length l.self.batch.stored < l.self.batch.config.batch;
  settling : Receives Gathered Settling g.T.ItemWatch.took l.initial.self l.self l.initial.taker l.taker [];
}

abbrev pub decreases-loop-self : goal.decreases-loop-self
decreases-loop-self g l = length l.self.recent.bits
