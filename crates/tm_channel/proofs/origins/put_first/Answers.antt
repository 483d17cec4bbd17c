use Rattle.std.proofs.Common.{◌∙◌, ◌+◌, List, set, take, ap, arith}
use Rattle.tm_channel.specs.declared.origins.Origin.{Origin}
use Rattle.tm_channel.proofs.OriginRoom.{put-first}
use Rattle.tm_channel.proofs.origins.put_first.Goals as goal

pub returns-clause-first : goal.returns-clause-first
returns-clause-first c =
    ap (λ (l : List Origin). take (c.args.count + 1) (set l 0 c.args.origin)) c.copy_within.ensures.after
    ∙ put-first c.args.room.now c.args.count c.args.origin (omega (arith, c.requires))
