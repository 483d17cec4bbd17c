use Rattle.std.proofs.Common.{arith}
use Rattle.tm_workers.specs.Working.{Leaves}
use Rattle.tm_workers.proofs.Batches.{part_more}
use Rattle.tm_workers.proofs.batch.decode_all.Goals as goal

pub loop-first-preserved : goal.loop-first-preserved
loop-first-preserved g c =
    let l = c.loop-first in
    let more = part_more (Leaves g.F.Fn c.args.decode.now) c.args.words.now
    l.words c.decode_start.new.words l.first c.min-end.result (omega (arith, c.min-end.ensures))
    (omega (arith, c.min-end.ensures)) l.invariant.rest c.decode_start.ensures l.invariant.done in
    record { done = more.0; rest = more.1 }
