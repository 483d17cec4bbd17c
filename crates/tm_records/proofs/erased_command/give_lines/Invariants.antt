use Rattle.std.proofs.Common.{◌≡◌, take}
use Rattle.std.specs.List.{list_any}
use Rattle.tm_base.specs.Takers.{HandedOver}
use Rattle.tm_records.specs.Erased.{is_beyond}
use Rattle.tm_records.specs.Erasing.{record_texts}
use Rattle.tm_records.proofs.erased_command.give_lines.Given as goal

abbrev pub invariant-loop-index : goal.invariant-loop-index
invariant-loop-index g l = record {
  given : HandedOver g.W.TextTaker.took l.fn.texts
      (record_texts l.records.coding.basis (take l.index l.records.nearest)) l.texts;
  known : l.beyond ≡ list_any is_beyond (take l.index l.records.nearest);
}
