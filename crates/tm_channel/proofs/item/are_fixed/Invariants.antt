use Rattle.std.proofs.Common.{◌≡◌, drop}
use Rattle.tm_channel.specs.Items.{are_fixed}
use Rattle.tm_channel.proofs.item.are_fixed.Given as goal

abbrev pub invariant-loop-answer : goal.invariant-loop-answer
invariant-loop-answer l = are_fixed l.answers ≡ are_fixed (drop l.answer-index l.answers)
