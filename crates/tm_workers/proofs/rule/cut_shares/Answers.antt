use Rattle.std.proofs.Common.{rules}
use Rattle.tm_workers.proofs.Keeps.{splits}
use Rattle.tm_workers.proofs.rule.cut_shares.Goals as goal

pub split_seat-requires : goal.split_seat-requires
split_seat-requires g c =
    let place = c.args.place.now in (
      search rules,
      search rules,
      rw (c.requires.parts.0, c.requires.parts.1)
          (splits c.args.shared.now.key place.id c.args.part place.me.0 c.requires.fewer.0 c.requires.fewer.1),
    )
