use Rattle.std.proofs.Common.{◌≡◌, take}
use Rattle.tm_codeblock.specs.Column.{column}
use Rattle.tm_codeblock.proofs.columns.take_every.Given as goal

abbrev pub invariant-loop-k : goal.invariant-loop-k
invariant-loop-k l = take l.k l.out ≡ take l.k (column l.depth l.i l.block)
