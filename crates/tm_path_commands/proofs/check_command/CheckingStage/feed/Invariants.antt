use Rattle.std.proofs.Common.{◌-◌, ◌≤◌, length, take}
use Rattle.tm_driver.specs.Staged.{Takes}
use Rattle.tm_cert_file.specs.Reading.{IsOpen}
use Rattle.tm_path_commands.specs.Checking.{Checks}
use Rattle.tm_path_commands.proofs.check_command.CheckingStage.feed.Given as goal

abbrev pub invariant-loop-at : goal.invariant-loop-at
invariant-loop-at g l = record {
  is_open : IsOpen l.self.reader;
  within : l.at ≤ length l.piece;
  takes : Takes g.W.TextTaker.took Checks Checks l.fn.self l.self l.fn.texts l.texts (take l.at l.piece);
}

abbrev pub decreases-loop-at : goal.decreases-loop-at
decreases-loop-at g l = length l.piece - l.at
