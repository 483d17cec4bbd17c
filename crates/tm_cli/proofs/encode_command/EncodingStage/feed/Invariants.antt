use Rattle.std.proofs.Common.{◌-◌, ◌≤◌, length, take}
use Rattle.tm_config.specs.Accepted.{IsAccepted}
use Rattle.tm_driver.specs.Staged.{Takes}
use Rattle.tm_cli.specs.Encoding.{Encodes}
use Rattle.tm_cli.proofs.encode_command.EncodingStage.feed.Given as goal

abbrev pub invariant-loop-at : goal.invariant-loop-at
invariant-loop-at g l = record {
  ready : IsAccepted l.self.sender.config;
  within : l.at ≤ length l.piece;
  takes : Takes g.W.TextTaker.took Encodes Encodes l.fn.self l.self l.fn.texts l.texts (take l.at l.piece);
}

abbrev pub decreases-loop-at : goal.decreases-loop-at
decreases-loop-at g l = length l.piece - l.at
