use Rattle.std.proofs.Common.{◌≡◌, ◌-◌, length, take, drop}
use Rattle.tm_workers.specs.Batch.{EachBecomes}
use Rattle.tm_workers.specs.Working.{Leaves}
use Rattle.tm_workers.proofs.batch.decode_all.Given as goal

abbrev pub invariant-loop-first : goal.invariant-loop-first
invariant-loop-first g l = record {
  done : EachBecomes (Leaves g.F.Fn l.decode) (take l.first l.initial.words)
      (take l.first l.words);
  rest : drop l.first l.words ≡ drop l.first l.initial.words;
}

abbrev pub decreases-loop-first : goal.decreases-loop-first
decreases-loop-first g l = length l.words - l.first
