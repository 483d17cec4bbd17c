use Rattle.std.proofs.Common.{◌≡◌, take}
use Rattle.tm_channel.specs.Storing.{answers_of}
use Rattle.tm_channel.proofs.slot.write_answers.Given as goal

abbrev pub invariant-loop-i : goal.invariant-loop-i
invariant-loop-i l = take l.i l.answers ≡ answers_of (take l.i l.words)
