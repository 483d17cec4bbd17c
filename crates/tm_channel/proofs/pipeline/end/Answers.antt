use Rattle.std.proofs.Common.{◌++◌, ◌∙◌, inl, map, sym, subst}
use Rattle.tm_base.specs.Handed.{Item, on_handed}
use Rattle.tm_base.proofs.Handing.{HandedOver-append}
use Rattle.tm_base.proofs.HandedItems.{HandedOver-items}
use Rattle.tm_inner.specs.InnerDecoding.{ready_in}
use Rattle.tm_inner.specs.Phase.{IsChosen}
use Rattle.tm_inner.proofs.Sharing.{shares-more}
use Rattle.tm_channel.specs.OctetReceiving.{IsEnded, IsSearched, Receives, Stages, bits_of_blocks}
use Rattle.tm_channel.specs.declared.totals.Totals.{Totals}
use Rattle.tm_channel.proofs.FirstStage.{Settles, settles-of}
use Rattle.tm_channel.proofs.ReceivedPieces.{receives-after}
use Rattle.tm_channel.proofs.StagesEnd.{at-end, ends}
use Rattle.tm_channel.proofs.WatchedStages.{watched-last}
use Rattle.tm_channel.proofs.pipeline.end.Given.{Over}
use Rattle.tm_channel.proofs.pipeline.end.Goals as goal
use Rattle.tm_channel.proofs.pipeline.end.Goals.{After-last-end}

settled-by : (g : Over) (c : After-last-end g) → Settles c.args.inner.now c.settle.new.self
settled-by g c =
    settles-of c.args.inner.now c.settle.new.self
    (record { config = c.settle.ensures.config; phase = c.settle.ensures.phase; stays = c.settle.ensures.stays })
    c.settle.ensures.ended c.settle.ensures.stands

pub returns-clause-chosen : goal.returns-clause-chosen
returns-clause-chosen g c = λ given done stood.
    let t = g.T.ItemWatch in
    subst (IsChosen c.args.inner.now.config given) (sym c.last-end.ensures.phase.0)
    (at-end (on_handed t.took_phase t.took) (record { inner = c.args.inner.now; bits = c.args.stream.now })
    c.settle.new.self (record { inner = c.take_decoded.new.inner; bits = c.take_decoded.new.stream }) c.args.taker.now
    c.take_decoded.new.taker (settled-by g (goal.at.returns-clause-chosen g c).After-last-end)
    c.take_decoded.ensures.decoded given done stood).choice

pub returns-clause-handed : goal.returns-clause-handed
returns-clause-handed g c =
    let t = g.T.ItemWatch in
    let s : Stages = record { inner = c.args.inner.now; bits = c.args.stream.now } in
    let d = c.take_decoded in
    let l = c.last-end in
    let noted = c.note.new.self in
    let after = c.hand_last.new.self in
    let now = c.hand_last.new.taker in
    let totals : Totals = record { bits = l.result.bits; slips = l.result.slips } in
    let bits = bits_of_blocks (ready_in l.new.self.queue) in
    let p : Receives IsSearched IsEnded t.took noted after d.new.taker now bits =
    receives-after IsSearched IsSearched IsEnded t.took noted c.receive_ready.new.self after d.new.taker
    c.receive_ready.new.taker now bits c.receive_ready.ensures.handed c.hand_last.ensures.handed in (
      d.ensures.decoded.more ++ map Item p.items,
      HandedOver-append (on_handed t.took_phase t.took) c.args.taker.now d.new.taker now d.ensures.decoded.more
          (map Item p.items) d.ensures.decoded.handed
          (HandedOver-items t.took_phase t.took d.new.taker now p.items p.handed),
      ends t.took_phase t.took s c.settle.new.self (record { inner = d.new.inner; bits = d.new.stream }) l.new.self
          (ready_in l.new.self.queue) noted after c.origin.result l.result.leftover totals c.args.taker.now d.new.taker
          now (settled-by g (goal.at.returns-clause-handed g c).After-last-end)
          d.ensures.decoded (record {
            ending = l.ensures.ends;
            chosen = l.ensures.phase.0;
            config = l.ensures.config;
            one = l.ensures.one;
            notes = (c.note.ensures.same, c.note.ensures.noted, c.origin.ensures.value, c.origin.ensures.few);
          }) p,
    )

pub returns-clause-watched : goal.returns-clause-watched
returns-clause-watched g c =
    let l = c.last-end in
    let d = c.take_decoded.ensures in
    watched-last g.W.WindowWatch.took c.args.inner.now c.settle.new.self c.take_decoded.new.inner l.new.self
    c.args.watch.now c.take_decoded.new.watch c.watch_ready.new.watch l.result.leftover l.result.bits l.result.slips
    (settled-by g (goal.at.returns-clause-watched g c).After-last-end) d.watched d.of.0 d.decoded.ended l.ensures.config
    l.ensures.phase.0 l.ensures.ends l.ensures.windows c.watch_ready.ensures.windows

pub returns-clause-sharing : goal.returns-clause-sharing
returns-clause-sharing g c =
    c.last-end.ensures.sharing ∙ shares-more (g.C.Crew.share c.args.crew.now) c.args.inner.now.queue
    c.settle.new.self.queue c.take_decoded.new.inner.queue (inl c.settle.ensures.sharing) c.take_decoded.ensures.sharing
