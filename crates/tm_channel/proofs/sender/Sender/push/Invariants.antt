use Rattle.std.proofs.Common.{◌≡◌, ◌-◌, ◌<◌, ◌≤◌, length, take, false}
use Rattle.tm_channel.specs.Sending.{Sends}
use Rattle.tm_channel.proofs.sender.Sender.push.Given as goal

abbrev pub invariant-loop-done : goal.invariant-loop-done
invariant-loop-done g l = record {
  within : l.done ≤ length l.octets;
  partial : l.self-inside.frame.count < l.self-inside.config.frame_length;
  same : l.self-inside.inner.config ≡ l.self-inside.config;
  going : l.self-inside.inner.has_failed ≡ false;
  faults : g.O.Sink.faults l.out ≡ g.O.Sink.faults l.fn.out;
  sent : Sends l.fn.self (record {
    config = l.self-inside.config;
    held = take l.self-inside.frame.count l.self-inside.frame.octets;
    inner = l.self-inside.inner;
  }) (g.O.Sink.taken l.fn.out) (g.O.Sink.taken l.out) (take l.done l.octets);
}

abbrev pub decreases-loop-done : goal.decreases-loop-done
decreases-loop-done g l = length l.octets - l.done
