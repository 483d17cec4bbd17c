use Rattle.std.proofs.Common.{◌≡◌, ◌+◌, ◌*◌}
use Rattle.tm_cli.specs.Generated.{drawn, changed_columns}
use Rattle.tm_cli.proofs.generated.change_columns.Given as goal

abbrev pub invariant-loop-column : goal.invariant-loop-column
invariant-loop-column l = record {
  codeblock : l.codeblock ≡ changed_columns l.config l.column l.hits l.fn.draws l.fn.codeblock;
  draws : l.draws ≡ drawn (l.column * (l.hits + 1)) l.fn.draws;
}
