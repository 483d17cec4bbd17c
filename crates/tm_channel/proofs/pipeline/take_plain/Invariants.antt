use Rattle.std.proofs.Common.{◌≡◌, ◌≤◌, ◌-◌, false, take, length}
use Rattle.tm_base.specs.Handed.{on_handed}
use Rattle.tm_inner.specs.InnerDecoding.{Shares}
use Rattle.tm_inner.specs.InnerWindows.{AreTold}
use Rattle.tm_inner.specs.Receiving.{Hands}
use Rattle.tm_channel.specs.OctetReceiving.{AwaitsBits}
use Rattle.tm_channel.proofs.GivenOctets.{Filled}
use Rattle.tm_channel.proofs.pipeline.take_plain.Given as goal

abbrev pub invariant-loop-done : goal.invariant-loop-done
invariant-loop-done g l = record {
  within : l.done ≤ length l.octets;
  inner : l.inner.config ≡ l.initial.inner.config;
  stream : l.stream.batch.config ≡ l.initial.stream.batch.config;
  awaits : AwaitsBits l.stream;
  filled : Filled (on_handed g.T.ItemWatch.took_phase g.T.ItemWatch.took)
      (record { inner = l.initial.inner; bits = l.initial.stream }) (record { inner = l.inner; bits = l.stream })
      l.initial.taker l.taker (take l.done l.octets);
  shares : Shares (g.C.Crew.share l.fn.crew) l.initial.inner.queue l.inner.queue;
  told : l.initial.inner.has_ended ≡ false
      → Hands g.W.WindowWatch.took AreTold l.initial.inner l.inner l.initial.watch l.watch (take l.done l.octets);
}

abbrev pub decreases-loop-done : goal.decreases-loop-done
decreases-loop-done g l = length l.octets - l.done
