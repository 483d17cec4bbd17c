use Rattle.std.proofs.Common.{◌≡◌, drop, length}
use Rattle.tm_base.specs.Handed.{on_handed}
use Rattle.tm_windows.specs.Windows.{dropped_of}
use Rattle.tm_inner.specs.InnerDecoding.{IsDrained, IsSettledQueue, held_in, ready_in, shared_by, sharing_in}
use Rattle.tm_inner.specs.InnerWindows.{AreThere}
use Rattle.tm_inner.proofs.ToldWindows.{ToldBut}
use Rattle.tm_channel.specs.OctetReceiving.{AwaitsBits, Decoded}
use Rattle.tm_channel.proofs.FirstStage.{left_for}
use Rattle.tm_channel.proofs.pipeline.take_decoded.Given as goal

abbrev pub invariant-loop-count : goal.invariant-loop-count
invariant-loop-count g l = record {
  config : l.inner.config ≡ l.fn.inner.config;
  stream : l.stream.batch.config ≡ l.fn.stream.batch.config;
  awaits : AwaitsBits l.stream;
  settled : IsSettledQueue l.fn.inner.queue → IsSettledQueue l.inner.queue;
  count : l.count ≡ length (ready_in l.inner.queue);
  drained : l.count ≡ 0 → IsDrained l.inner.queue;
  there : AreThere l.inner.queue;
  sharing : sharing_in l.inner.queue ≡ shared_by (g.C.Crew.share l.fn.crew) (sharing_in l.fn.inner.queue);
  told : ToldBut g.W.WindowWatch.took l.fn.inner l.inner l.fn.watch l.watch;
  later : dropped_of (drop 1 (ready_in l.inner.queue)) ≡ 0;
  decoded : Decoded (on_handed g.T.ItemWatch.took_phase g.T.ItemWatch.took)
      (record { inner = l.fn.inner; bits = l.fn.stream }) (record { inner = l.inner; bits = l.stream })
      l.fn.taker l.taker (ready_in l.inner.queue);
}

abbrev pub decreases-loop-count : goal.decreases-loop-count
decreases-loop-count g l = left_for l.count (length (held_in l.inner.queue))
