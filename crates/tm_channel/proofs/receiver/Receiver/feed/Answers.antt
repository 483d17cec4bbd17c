use Rattle.std.proofs.Common.{rules, ◌≡◌, true, false, refl, sym, subst, Ok, Err}
use Rattle.tm_base.specs.Handed.{on_handed}
use Rattle.tm_channel.specs.Calls.{Feeds, Tells}
use Rattle.tm_channel.specs.OctetReceiving.{OctetReceiving}
use Rattle.tm_channel.specs.declared.receiver.RecvError.TheVariants.{Stopped, Taker}
use Rattle.tm_channel.proofs.Told.{Told, feeds-failed, feeds-ok, feeds-stopped, told-loan}
use Rattle.tm_channel.proofs.receiver.Receiver.feed.Goals as goal

pub returns-then-not-went-clause-feeds : goal.returns-then-not-went-clause-feeds
returns-then-not-went-clause-feeds g c =
    let t = g.T.ItemTaker in
    let r = c.receive-went in
    let tells = subst (Tells (Told t.took_phase t.broke_phase t.took t.broke t.faults t.is_last) c.args.self.now
    r.new.self _ r.new.items c.args.octets.now) c.if-not-went.true r.ensures.tells in
    let loan : r.new.items.taker.ghost_name ≡ _ =
    told-loan t.took_phase t.broke_phase t.took t.broke t.faults t.is_last c.args.self.now r.new.self _ r.new.items
    c.args.octets.now false tells in
    let fed : Feeds {R = Unit {0}} (on_handed t.took_phase t.took) (on_handed t.broke_phase t.broke) t.faults t.is_last
    c.args.self.now r.new.self c.args.taker.now r.new.items.taker.now c.args.octets.now (Err Stopped) =
    feeds-stopped t.took_phase t.broke_phase t.took t.broke t.faults t.is_last c.args.self.now r.new.self _ r.new.items
    c.args.octets.now tells in
    search rules

pub returns-then-has_failed-clause-feeds : goal.returns-then-has_failed-clause-feeds
returns-then-has_failed-clause-feeds g c =
    let t = g.T.ItemTaker in
    let r = c.receive-went in
    let tells = subst (Tells (Told t.took_phase t.broke_phase t.took t.broke t.faults t.is_last) c.args.self.now
    r.new.self _ r.new.items c.args.octets.now) c.if-not-went.false r.ensures.tells in
    let loan : r.new.items.taker.ghost_name ≡ _ =
    told-loan t.took_phase t.broke_phase t.took t.broke t.faults t.is_last c.args.self.now r.new.self _ r.new.items
    c.args.octets.now true tells in
    let fed : Feeds {R = Unit {0}} (on_handed t.took_phase t.took) (on_handed t.broke_phase t.broke) t.faults t.is_last
    c.args.self.now c.stop.new.self c.args.taker.now r.new.items.taker.now c.args.octets.now (Err Taker) =
    subst (λ (v : OctetReceiving). Feeds {R = Unit {0}} (on_handed t.took_phase t.took)
    (on_handed t.broke_phase t.broke) t.faults t.is_last c.args.self.now v c.args.taker.now r.new.items.taker.now
    c.args.octets.now (Err Taker)) (sym c.stop.ensures)
    (feeds-failed t.took_phase t.broke_phase t.took t.broke t.faults t.is_last c.args.self.now r.new.self _ r.new.items
    c.args.octets.now tells refl c.if-has_failed.true) in
    search rules

pub returns-clause-feeds : goal.returns-clause-feeds
returns-clause-feeds g c =
    let t = g.T.ItemTaker in
    let r = c.receive-went in
    let tells = subst (Tells (Told t.took_phase t.broke_phase t.took t.broke t.faults t.is_last) c.args.self.now
    r.new.self _ r.new.items c.args.octets.now) c.if-not-went.false r.ensures.tells in
    let loan : r.new.items.taker.ghost_name ≡ _ =
    told-loan t.took_phase t.broke_phase t.took t.broke t.faults t.is_last c.args.self.now r.new.self _ r.new.items
    c.args.octets.now true tells in
    let fed : Feeds {R = Unit {0}} (on_handed t.took_phase t.took) (on_handed t.broke_phase t.broke) t.faults t.is_last
    c.args.self.now r.new.self c.args.taker.now r.new.items.taker.now c.args.octets.now (Ok (tt {0})) =
    feeds-ok t.took_phase t.broke_phase t.took t.broke t.faults t.is_last c.args.self.now r.new.self _ r.new.items
    c.args.octets.now tells refl c.if-has_failed.false in
    search rules
