use Rattle.std.proofs.Common.{◌<◌, subst, rules}
use Rattle.tm_workers.proofs.Keeps.{joins, counts}
use Rattle.tm_workers.proofs.tickets.Tickets.join.Goals as goal

pub join_seat-requires : goal.join_seat-requires
join_seat-requires c =
    let t = c.args.self.now in
    let s = c.args.seat.now in
    let o = c.args.other in (
      search rules,
      search rules,
      search rules,
      search rules,
      joins t.table.shared.key s.place.id o.place.id s.place.me.0 o.place.me.0
          (subst (λ n. 0 < n) s.shares_are s.has_some) (subst (λ n. 0 < n) o.shares_are o.has_some),
    )

pub load-requires : goal.load-requires
load-requires c =
    let t = c.args.self.now in (
      search rules,
      search rules,
      counts t.table.shared.key t.table.shared.table_id.slots c.join_seat.new.seat.id
          c.join_seat.new.seat.me,
    )
