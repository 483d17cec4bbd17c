use Rattle.std.proofs.Common.{◌≡◌, ◌<◌, ◌≤◌, ℕ, length}
use Rattle.tm_codeblock.specs.Column.{column}
use Rattle.tm_channel.proofs.ColumnsRead.{sent_column}
use Rattle.tm_channel.proofs.column_words.write_frame.Given as goal

abbrev pub invariant-loop-i : goal.invariant-loop-i
invariant-loop-i l = record {
  written : (j : ℕ) → j < l.i → column l.depth j l.frame ≡ sent_column l.basis l.size l.words j;
  rest : (j : ℕ) → l.i ≤ j → j < l.depth → column l.depth j l.frame ≡ column l.depth j l.initial.frame;
  long : length l.frame ≡ length l.initial.frame;
}
