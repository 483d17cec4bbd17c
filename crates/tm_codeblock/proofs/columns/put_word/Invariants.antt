use Rattle.std.proofs.Common.{◌≡◌, ◌≢◌, ◌<◌, ℕ, take}
use Rattle.tm_codeblock.specs.Column.{column}
use Rattle.tm_codeblock.proofs.columns.put_word.Given as goal

abbrev pub invariant-loop-k : goal.invariant-loop-k
invariant-loop-k l = record {
  put : take l.k (column l.depth l.i l.block) ≡ take l.k l.word;
  others : (j : ℕ) → j < l.depth → j ≢ l.i → column l.depth j l.block ≡ column l.depth j l.initial.block;
}
