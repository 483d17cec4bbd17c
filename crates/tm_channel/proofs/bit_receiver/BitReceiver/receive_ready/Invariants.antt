use Rattle.std.proofs.Common.{take}
use Rattle.tm_inner.specs.InnerDecoding.{ready_in}
use Rattle.tm_channel.specs.OctetReceiving.{Gathered, IsSearched, Receives, bits_of_blocks}
use Rattle.tm_channel.specs.Receiving.{Fills}
use Rattle.tm_channel.proofs.bit_receiver.BitReceiver.receive_ready.Given as goal

abbrev pub invariant-loop-index : goal.invariant-loop-index
invariant-loop-index g l = record {
  fills : Fills l.self.finder l.self.recent l.self.batch;
  gathers : Receives IsSearched Gathered g.T.ItemWatch.took l.initial.self l.self
      l.initial.taker l.taker (bits_of_blocks (take l.index (ready_in l.inner.queue)));
}
