use Rattle.std.proofs.Common.{◌≡◌, false, ℕ, ◌+◌, List, length, take}
use Rattle.tm_base.specs.Takers.{HandedOver}
use Rattle.tm_base.specs.Written.{Gave}
use Rattle.tm_driver.specs.Writing.{Text, Writes}
use Rattle.tm_driver.proofs.Turns.{Asked}
use Rattle.tm_driver.proofs.stage.drive_into.Given as goal

abbrev pub invariant-loop-room : goal.invariant-loop-room
invariant-loop-room g l = record {
  ready : g.T.Stage.is_ready l.stage;
  read : (octets : List ℕ) × (all : List Text) × Gave (g.S.Source.given l.fn.source) (g.S.Source.given l.source)
      (g.S.Source.left l.fn.source) (g.S.Source.left l.source) octets
      × (length octets + l.room ≡ l.limit + 1) × g.T.Stage.stands l.fn.stage l.stage (take l.limit octets) all
      × HandedOver (Writes g.O.Sink g.N.Sink) l.fn.texts all l.texts;
  going : l.texts.has_failed ≡ false;
  ended : g.S.Source.ended l.source ≡ g.S.Source.ended l.fn.source;
  asked : Asked l.limit l.room (g.S.Source.asked l.fn.source) (g.S.Source.asked l.source);
  source : g.S.Source.faults l.source ≡ g.S.Source.faults l.fn.source;
}

abbrev pub decreases-loop-room : goal.decreases-loop-room
decreases-loop-room g l = l.room
