use Rattle.std.proofs.Common.{rules}
use Rattle.tm_workers.specs.Working.{Leaves}
use Rattle.tm_workers.proofs.Batches.{each_at}
use Rattle.tm_workers.proofs.split.split_evenly.Goals as goal

pub returns : goal.returns
returns g c = each_at (Leaves g.F.Fn c.args.decode.now) c.args.words.now c.for_each_mut.new.s
    c.for_each_mut.auto.s (λ i d below. let called = (c.for_each_mut.ensures i d below).1 in search rules)
