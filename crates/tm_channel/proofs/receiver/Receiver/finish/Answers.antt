use Rattle.std.proofs.Common.{rules, ◌≡◌, refl, Some, Ok, Err}
use Rattle.tm_base.specs.Handed.{on_handed}
use Rattle.tm_channel.specs.Calls.{Finishes}
use Rattle.tm_channel.specs.declared.receiver.RecvError.TheVariants.{Taker}
use Rattle.tm_channel.proofs.Told.{finishes-failed, finishes-ok, last-loan}
use Rattle.tm_channel.proofs.receiver.Receiver.finish.Goals as goal

pub returns-then-has_failed-clause-finishes : goal.returns-then-has_failed-clause-finishes
returns-then-has_failed-clause-finishes g c =
    let t = g.T.ItemTaker in
    let r = c.end-ended in
    let tells = c.in-Some.ensures.tells in
    let loan : r.new.items.taker.ghost_name ≡ _ =
    last-loan t.took_phase t.broke_phase t.took t.broke t.faults t.is_last c.args.self.now r.new.self _ r.new.items
    (Some c.in-Some.totals) tells in
    let finished : Finishes (on_handed t.took_phase t.took) (on_handed t.broke_phase t.broke) t.faults t.is_last
    c.args.self.now r.new.self c.args.taker.now r.new.items.taker.now (Err Taker) =
    finishes-failed t.took_phase t.broke_phase t.took t.broke t.faults t.is_last c.args.self.now r.new.self _ r.new.items
    c.in-Some.totals tells refl c.if-has_failed.true in
    search rules

pub returns-clause-finishes : goal.returns-clause-finishes
returns-clause-finishes g c =
    let t = g.T.ItemTaker in
    let r = c.end-ended in
    let tells = c.in-Some.ensures.tells in
    let loan : r.new.items.taker.ghost_name ≡ _ =
    last-loan t.took_phase t.broke_phase t.took t.broke t.faults t.is_last c.args.self.now r.new.self _ r.new.items
    (Some c.in-Some.totals) tells in
    let finished : Finishes (on_handed t.took_phase t.took) (on_handed t.broke_phase t.broke) t.faults t.is_last
    c.args.self.now r.new.self c.args.taker.now r.new.items.taker.now (Ok c.in-Some.totals) =
    finishes-ok t.took_phase t.broke_phase t.took t.broke t.faults t.is_last c.args.self.now r.new.self _ r.new.items
    c.in-Some.totals tells refl c.if-has_failed.false in
    search rules
