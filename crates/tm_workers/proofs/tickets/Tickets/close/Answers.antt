use Rattle.std.proofs.Common.{◌∙◌, min, sym, ap, arith}
use Rattle.tm_workers.specs.Numbers.{once_below}
use Rattle.tm_workers.proofs.Keeps.{closes, word_at}
use Rattle.tm_workers.proofs.tickets.Tickets.close.Goals as goal

pub free-requires : goal.free-requires
free-requires c k h =
    let none = c.args.self.no_slots in let same = c.close_with-closed.ensures.counts.1 in absurd (omega arith)

pub returns-clause-each : goal.returns-clause-each
returns-clause-each c x =
    let t = c.args.self in
    let all = closes t.table.shared.key c.args.seat.place.id c.args.seat.place.me.0 _ _
    c.close_with-closed.ensures.values.2 c.requires.whole in
    let count = word_at _ _ c.word-count.ensures in
    all.0 x ∙ (λ i. once_below x (min (count i) (sym (c.from.ensures ∙ t.limit_is) i)))
    ∙ ap (once_below x) (sym c.min.ensures)

pub returns-clause-all : goal.returns-clause-all
returns-clause-all c spent =
    let t = c.args.self in
    let all = closes t.table.shared.key c.args.seat.place.id c.args.seat.place.me.0 _ _
    c.close_with-closed.ensures.values.2 c.requires.whole in
    let count = word_at _ _ c.word-count.ensures in
    let past = all.1 spent in
    let limit = t.limit_is in
    let from = c.from.ensures in
    omega (arith, c.min.ensures)
