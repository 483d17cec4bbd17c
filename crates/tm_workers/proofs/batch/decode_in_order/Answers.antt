use Rattle.std.proofs.Common.{add-one}
use Rattle.tm_workers.specs.Words.{Decodes}
use Rattle.tm_workers.proofs.Batches.{each_more}
use Rattle.tm_workers.proofs.batch.decode_in_order.Goals as goal

pub loop-word-preserved : goal.loop-word-preserved
loop-word-preserved c =
    let l = c.loop-word in
    let one = each_more (Decodes c.args.params.now c.args.repair) c.args.words.now l.word-items
    l.word-index c.decode.new.self _ c.loop-word-test.true l.auto.word-items l.invariant.rest c.decode.ensures
    l.invariant.done in
    record { done = rw (add-one l.word-index) one.0; rest = rw (add-one l.word-index) one.1 }
