use Rattle.std.proofs.Common.{◌≡◌, ◌∙◌, inr, ◌++◌, ◌∷◌, List, [], drop, length, arith, refl, ap, sym, subst}
use Rattle.tm_base.specs.Handed.{on_handed}
use Rattle.tm_viterbi.specs.WindowBlock.{WindowBlock}
use Rattle.tm_windows.specs.Windows.{dropped_of}
use Rattle.tm_inner.specs.InnerDecoding.{InnerDecoding, IsDrained, IsSettledQueue, held_in, ready_in, sharing_in}
use Rattle.tm_inner.specs.InnerWindows.{AreThere, windows_in}
use Rattle.tm_inner.proofs.Sharing.{shares-more}
use Rattle.tm_inner.proofs.ToldWindows.{ToldBut, told-all, told-next, told-read, told-run}
use Rattle.tm_channel.specs.OctetReceiving.{Decoded}
use Rattle.tm_channel.specs.declared.bit_receiver.BitReceiver.{BitReceiver}
use Rattle.tm_channel.proofs.FirstStage.{Runs, left-falls}
use Rattle.tm_channel.proofs.Progress.{decoded-more, decoded-start}
use Rattle.tm_channel.proofs.pipeline.take_decoded.Goals as goal

pub loop-count-init : goal.loop-count-init
loop-count-init g c =
    let t = g.T.ItemWatch in
    let d = c.decode-count in
    let now = d.new.self in
    let ready = ready_in now.queue in
    let e = d.ensures in
    let run : Runs c.args.inner.now now ready = record {
      on = record { config = e.config; phase = e.phase.0; stays = e.settled };
      ended = e.phase.1;
      stands = e.stands;
    } in
    let read = c.hand_phase.ensures.read in
    let after : InnerDecoding = c.hand_phase.new.inner in
    record {
      config = ap (λ (k : InnerDecoding). k.config) read ∙ e.config;
      stream = refl;
      awaits = c.requires.awaits;
      settled =
          λ settled. subst (λ (k : InnerDecoding). IsSettledQueue k.queue) (sym read) (e.still settled);
      count = e.count ∙ ap (λ (k : InnerDecoding). length (ready_in k.queue)) (sym read);
      drained = λ none. subst (λ (k : InnerDecoding). IsDrained k.queue) (sym read) (e.drained none);
      there = subst (λ (k : InnerDecoding). AreThere k.queue) (sym read) e.there;
      sharing = ap (λ (k : InnerDecoding). sharing_in k.queue) read ∙ e.sharing;
      told = subst (λ (k : InnerDecoding). ToldBut g.W.WindowWatch.took c.args.inner.now k c.args.watch.now
          c.args.watch.now)
          (sym read) (record {
            more = [];
            told = refl;
            are = λ given done is. told-read now given (done ++ windows_in now)
                (told-run c.args.inner.now now e.config e.settled
                (λ given blocks s. (e.stands given blocks s).0) e.windows
                given done is);
          });
      later = ap (λ (k : InnerDecoding). dropped_of (drop 1 (ready_in k.queue))) read ∙ e.later;
      decoded =
          subst (λ (l : List WindowBlock). Decoded (on_handed t.took_phase t.took)
          (record { inner = c.args.inner.now; bits = c.args.stream.now })
          (record { inner = after; bits = c.args.stream.now }) c.args.taker.now c.hand_phase.new.taker l)
          (ap (λ (k : InnerDecoding). ready_in k.queue) (sym read))
          (decoded-start (on_handed t.took_phase t.took) c.args.inner.now now after c.args.stream.now c.args.taker.now
          c.hand_phase.new.taker ready run read c.hand_phase.ensures.handed);
    }

pub loop-count-smaller : goal.loop-count-smaller
loop-count-smaller g c =
    left-falls c.loop-count.count c.decode-count-in-loop-count.result
    (length (held_in c.decode-count-in-loop-count.new.self.queue))
    (length (held_in c.loop-count.inner.queue)) c.loop-count-test.true c.decode-count-in-loop-count.ensures.shorter

pub loop-count-preserved : goal.loop-count-preserved
loop-count-preserved g c =
    let t = g.T.ItemWatch in
    let i = c.loop-count.invariant in
    let d = c.decode-count-in-loop-count in
    let e = d.ensures in
    let before = c.loop-count.inner in
    let ready = ready_in before.queue in
    let next = ready_in d.new.self.queue in
    let run : Runs before d.new.self next = record {
      on = record { config = e.config; phase = e.phase.0; stays = e.settled };
      ended = e.phase.1;
      stands = e.stands;
    } in
    record {
      config = e.config ∙ i.config;
      stream = c.receive_ready.ensures.handed.config ∙ ap (λ (v : BitReceiver). v.batch.config) c.note.ensures.same
          ∙ i.stream;
      awaits = c.receive_ready.ensures.awaits;
      settled = λ settled. e.still (i.settled settled);
      count = e.count;
      drained = e.drained;
      there = e.there;
      sharing = shares-more (g.C.Crew.share c.args.crew.now) c.args.inner.now.queue before.queue
          d.new.self.queue (inr i.sharing) e.sharing;
      told = told-next g.W.WindowWatch.took c.args.inner.now before d.new.self c.args.watch.now c.loop-count.watch
          c.watch_ready.new.watch i.told c.watch_ready.ensures.windows
          (told-run before d.new.self e.config e.settled (λ given blocks s. (e.stands given blocks s).0) e.windows);
      later = e.later;
      decoded = decoded-more t.took_phase t.took (record { inner = c.args.inner.now; bits = c.args.stream.now })
          (record { inner = before; bits = c.loop-count.stream }) d.new.self c.note.new.self c.receive_ready.new.self
          c.origin.result c.args.taker.now c.loop-count.taker c.receive_ready.new.taker ready next i.decoded
          (omega (arith, c.loop-count-test.true, i.count)) i.later
          (c.note.ensures.same, c.note.ensures.noted, c.origin.ensures.value, c.origin.ensures.few)
          c.receive_ready.ensures.handed run;
    }

pub returns-clause-of : goal.returns-clause-of
returns-clause-of g c = (c.loop-count.invariant.config, c.loop-count.invariant.stream)

pub returns-clause-drained : goal.returns-clause-drained
returns-clause-drained g c = c.loop-count.invariant.drained (omega (arith, c.loop-count-test.false))

none-ready : (ready : List WindowBlock) → length ready ≡ 0 → ready ≡ []
none-ready [] none = refl
none-ready (x ∷ ready) none = absurd cc

pub returns-clause-decoded : goal.returns-clause-decoded
returns-clause-decoded g c =
    let t = g.T.ItemWatch in
    subst (Decoded (on_handed t.took_phase t.took) (record { inner = c.args.inner.now; bits = c.args.stream.now })
    (record { inner = c.loop-count.inner; bits = c.loop-count.stream }) c.args.taker.now c.loop-count.taker)
    (none-ready (ready_in c.loop-count.inner.queue)
    (omega (arith, c.loop-count-test.false, c.loop-count.invariant.count)))
    c.loop-count.invariant.decoded

pub returns-clause-watched : goal.returns-clause-watched
returns-clause-watched g c =
    told-all g.W.WindowWatch.took c.args.inner.now c.loop-count.inner c.args.watch.now c.loop-count.watch
    c.loop-count.invariant.told (omega (arith, c.loop-count-test.false, c.loop-count.invariant.count))
