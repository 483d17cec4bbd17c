use Rattle.std.proofs.Common.{add-one}
use Rattle.tm_workers.specs.Working.{Leaves}
use Rattle.tm_workers.proofs.Batches.{each_more}
use Rattle.tm_workers.proofs.batch.put_results.Goals as goal

pub loop-index-preserved : goal.loop-index-preserved
loop-index-preserved g c =
    let l = c.loop-index in
    let becomes = Leaves g.F.Fn c.args.decode.now in
    let one = each_more becomes c.args.words.now l.words l.index c.result_of.result _
    c.loop-index-test.true l.auto.words l.invariant.rest c.result_of.ensures l.invariant.done in
    record { done = rw (add-one l.index) one.0; rest = rw (add-one l.index) one.1 }
