use Rattle.std.proofs.Common.{◌∙◌, ◌<◌, sym, subst, rules}
use Rattle.tm_workers.proofs.Keeps.{draws}
use Rattle.tm_workers.proofs.tickets.Tickets.draw.Goals as goal

pub fetch_add-found-requires : goal.fetch_add-found-requires
fetch_add-found-requires c =
    let t = c.args.self.now in
    let s = c.args.seat.now in (
      search rules,
      search rules,
      draws t.table.shared.key t.table.shared.table_id.slots s.place.id s.place.me
          (subst (λ n. n < 4294967296) t.limit_is t.small) (subst (λ n. 0 < n) s.shares_are s.has_some)
          c.requires.of.limit (sym s.spent_is ∙ c.if-seat.false),
    )
