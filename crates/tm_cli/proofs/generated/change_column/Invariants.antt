use Rattle.std.proofs.Common.{◌≡◌, ◌+◌}
use Rattle.tm_cli.specs.Generated.{drawn, changed_column}
use Rattle.tm_cli.proofs.generated.change_column.Given as goal

abbrev pub invariant-loop-k : goal.invariant-loop-k
invariant-loop-k l = record {
  codeblock : l.codeblock ≡ changed_column l.config l.column l.k l.fn.draws l.fn.codeblock;
  draws : l.draws ≡ drawn (l.k + 1) l.fn.draws;
}
