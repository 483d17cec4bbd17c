use Rattle.std.proofs.Common.{◌≡◌, take, drop}
use Rattle.tm_workers.specs.Batch.{EachBecomes}
use Rattle.tm_workers.specs.Words.{Decodes}
use Rattle.tm_workers.proofs.batch.decode_in_order.Given as goal

abbrev pub invariant-loop-word : goal.invariant-loop-word
invariant-loop-word l = record {
  done : EachBecomes (Decodes l.params l.repair) (take l.word-index l.initial.word-items)
      (take l.word-index l.word-items);
  rest : drop l.word-index l.word-items ≡ drop l.word-index l.initial.word-items;
}
