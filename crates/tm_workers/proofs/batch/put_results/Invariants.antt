use Rattle.std.proofs.Common.{◌≡◌, take, drop}
use Rattle.tm_workers.specs.Batch.{EachBecomes}
use Rattle.tm_workers.specs.Working.{Leaves}
use Rattle.tm_workers.proofs.batch.put_results.Given as goal

abbrev pub invariant-loop-index : goal.invariant-loop-index
invariant-loop-index g l = record {
  done : EachBecomes (Leaves g.F.Fn l.decode) (take l.index l.initial.words)
      (take l.index l.words);
  rest : drop l.index l.words ≡ drop l.index l.initial.words;
}
