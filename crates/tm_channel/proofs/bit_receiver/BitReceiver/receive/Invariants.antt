use Rattle.std.proofs.Common.{◌≤◌, ◌-◌, drop, take, length}
use Rattle.tm_base.specs.Bits.{bits_of}
use Rattle.tm_channel.specs.OctetReceiving.{Gathered, IsSearched, Receives}
use Rattle.tm_channel.specs.Receiving.{Fills}
use Rattle.tm_channel.proofs.bit_receiver.BitReceiver.receive.Given as goal

abbrev pub invariant-loop-done : goal.invariant-loop-done
invariant-loop-done g l = record {
  within : l.done ≤ length l.octets;
  fills : Fills l.self.finder l.self.recent l.self.batch;
  gathers : Receives IsSearched Gathered g.T.ItemWatch.took l.initial.self l.self l.initial.taker l.taker
      (drop l.from (bits_of (take l.done l.octets)));
}

abbrev pub decreases-loop-done : goal.decreases-loop-done
decreases-loop-done g l = length l.octets - l.done
