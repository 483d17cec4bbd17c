use Rattle.std.proofs.Common.{◌≡◌, ◌+◌, ◌*◌, ◌≤◌, ◌++◌, length, take, flat_map}
use Rattle.tm_cli.specs.Lines.{answer_text}
use Rattle.tm_cli.proofs.report_lines.add_each_answer.Given as goal

abbrev pub invariant-loop-answer : goal.invariant-loop-answer
invariant-loop-answer l = record {
  text : l.line ≡ l.initial.line ++ flat_map answer_text (take l.answer-index l.answers);
  length : length l.line ≤ length l.initial.line + 21 * l.answer-index;
}
