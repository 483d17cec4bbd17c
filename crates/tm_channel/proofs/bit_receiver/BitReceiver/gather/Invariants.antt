use Rattle.std.proofs.Common.{◌==◌, ◌-◌, ◌≤◌, take, map, length}
use Rattle.tm_channel.specs.OctetReceiving.{Gathered, Receives}
use Rattle.tm_channel.specs.Receiving.{Fills}
use Rattle.tm_channel.proofs.bit_receiver.BitReceiver.gather.Given as goal

abbrev pub invariant-loop-done : goal.invariant-loop-done
invariant-loop-done g l = record {
  within : l.done ≤ length l.bits;
  fills : Fills l.self.finder l.self.recent l.self.batch;
  gathers : Receives Gathered Gathered g.T.ItemWatch.took l.initial.self l.self
      l.initial.taker l.taker (map (λ bit. bit == 1) (take l.done l.bits));
}

abbrev pub decreases-loop-done : goal.decreases-loop-done
decreases-loop-done g l = length l.bits - l.done
