use Rattle.std.proofs.Common.{◌≡◌, ◌<◌, ℕ, ◌++◌, length}
use Rattle.tm_codeblock.specs.Column.{column}
use Rattle.tm_codeblock.specs.Cadu.{coded_octets}
use Rattle.tm_codeblock.proofs.cadus.write_checks.Given as goal

abbrev pub invariant-loop-i : goal.invariant-loop-i
invariant-loop-i l = record {
  columns : (j : ℕ) → j < l.i → column l.depth j l.frame ++ column l.depth j l.checks
      ≡ coded_octets l.basis l.params.e (column l.depth j l.frame);
  length : length l.checks ≡ length l.initial.checks;
}
