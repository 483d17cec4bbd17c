use Rattle.std.proofs.Common.{◌-◌, ◌≤◌, length, take}
use Rattle.tm_driver.specs.Staged.{Takes}
use Rattle.tm_records.specs.Erasing.{Erases, HasSpace}
use Rattle.tm_records.proofs.erased_command.ErasingStage.feed.Given as goal

abbrev pub invariant-loop-at : goal.invariant-loop-at
invariant-loop-at g l = record {
  space : HasSpace l.self.records;
  within : l.at ≤ length l.piece;
  takes : Takes g.W.TextTaker.took Erases Erases l.fn.self l.self l.fn.texts l.texts (take l.at l.piece);
}

abbrev pub decreases-loop-at : goal.decreases-loop-at
decreases-loop-at g l = length l.piece - l.at
