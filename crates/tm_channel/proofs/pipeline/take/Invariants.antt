use Rattle.std.proofs.Common.{◌≡◌, ◌⊎◌, ◌<◌, ◌≤◌, ◌-◌, false, take, length}
use Rattle.tm_base.specs.Handed.{on_handed}
use Rattle.tm_inner.specs.InnerDecoding.{Shares}
use Rattle.tm_inner.specs.InnerWindows.{AreTold}
use Rattle.tm_inner.specs.Receiving.{Hands}
use Rattle.tm_channel.proofs.GivenOctets.{Filled}
use Rattle.tm_channel.specs.OctetReceiving.{AwaitsBits}
use Rattle.tm_channel.proofs.pipeline.take.Given as goal

abbrev pub invariant-loop-done : goal.invariant-loop-done
invariant-loop-done g l = record {
  grows : l.initial.done ≤ l.done;
  first : (l.initial.done < length l.octets) ⊎ ((l.inner ≡ l.initial.inner) × (l.stream ≡ l.initial.stream)
      × (l.taker ≡ l.initial.taker));
  within : l.done ≤ length l.octets;
  inner : l.inner.config ≡ l.fn.inner.config;
  stream : l.stream.batch.config ≡ l.fn.stream.batch.config;
  awaits : AwaitsBits l.stream;
  filled : Filled (on_handed g.T.ItemWatch.took_phase g.T.ItemWatch.took)
      (record { inner = l.fn.inner; bits = l.fn.stream }) (record { inner = l.inner; bits = l.stream })
      l.fn.taker l.taker (take l.done l.octets);
  shares : Shares (g.C.Crew.share l.fn.crew) l.fn.inner.queue l.inner.queue;
  told : l.fn.inner.has_ended ≡ false
      → Hands g.W.WindowWatch.took AreTold l.fn.inner l.inner l.fn.watch l.watch (take l.done l.octets);
}

abbrev pub decreases-loop-done : goal.decreases-loop-done
decreases-loop-done g l = length l.octets - l.done
