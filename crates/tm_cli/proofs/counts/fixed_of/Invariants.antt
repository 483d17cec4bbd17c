use Rattle.std.proofs.Common.{◌≡◌, ◌+◌, ◌*◌, ◌≤◌, drop}
use Rattle.tm_cli.specs.Report.{fixed_of}
use Rattle.tm_cli.proofs.counts.fixed_of.Given as goal

abbrev pub invariant-loop-answer : goal.invariant-loop-answer
invariant-loop-answer l = record {
  sum : l.sum + fixed_of (drop l.answer-index l.answers) ≡ fixed_of l.answers;
  small : l.sum ≤ 255 * l.answer-index;
}
