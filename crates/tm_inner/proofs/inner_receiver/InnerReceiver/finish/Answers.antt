use Rattle.std.proofs.Common.{rules, ◌≡◌, true, refl, subst, Ok, Err}
use Rattle.tm_base.specs.Calls.{taker_call}
use Rattle.tm_base.specs.Handed.{on_handed}
use Rattle.tm_windows.specs.declared.decoder.FeedError.TheVariants.{Taker}
use Rattle.tm_inner.specs.Calls.{Finishes}
use Rattle.tm_inner.specs.Receiving.{InnerReceiving}
use Rattle.tm_inner.proofs.Until.{finishes-failed, finishes-ok, same-loan}
use Rattle.tm_inner.proofs.inner_receiver.InnerReceiver.finish.Goals as goal

pub returns-then-has_failed : goal.returns-then-has_failed
returns-then-has_failed g c =
    let t = g.B.BlockTaker in
    let took = on_handed t.took_phase t.took in
    let broke = on_handed t.broke_phase t.broke in
    let w = c.watch_last-end in
    let r = w.ensures.read in
    let watch = w.new.watch in
    let loan : watch.taker.ghost_name ≡ _ = same-loan took broke t.faults t.is_last _ watch r.last r.handed in
    let finished = subst (λ (r : InnerReceiving). Finishes r (record { decoder = w.new.inner; has_stopped = true })
    (taker_call took broke t.faults t.is_last c.args.blocks.now watch.taker.now) (Err Taker)) c.self.view_is
    (finishes-failed took broke t.faults t.is_last
    (record { decoder = c.self.inside.decoder; has_stopped = c.self.inside.has_stopped }) w.new.inner _ watch
    c.if-self.false refl w.result c.if-has_failed.true r) in
    search rules

pub returns : goal.returns
returns g c =
    let t = g.B.BlockTaker in
    let took = on_handed t.took_phase t.took in
    let broke = on_handed t.broke_phase t.broke in
    let w = c.watch_last-end in
    let r = w.ensures.read in
    let watch = w.new.watch in
    let loan : watch.taker.ghost_name ≡ _ = same-loan took broke t.faults t.is_last _ watch r.last r.handed in
    let finished = subst (λ (r : InnerReceiving). Finishes r (record { decoder = w.new.inner; has_stopped = true })
    (taker_call took broke t.faults t.is_last c.args.blocks.now watch.taker.now) (Ok w.result)) c.self.view_is
    (finishes-ok took broke t.faults t.is_last
    (record { decoder = c.self.inside.decoder; has_stopped = c.self.inside.has_stopped }) w.new.inner _ watch
    c.if-self.false refl w.result c.if-has_failed.false r) in
    search rules
