use Rattle.std.proofs.Common.{[], ◌∷◌, ◌++◌, List}
use Rattle.tm_base.proofs.Handing.{HandedOver-push}
use Rattle.tm_driver.specs.Lines.{left_over_text}
use Rattle.tm_driver.specs.Writing.{Text, Note}
use Rattle.tm_records.specs.Erasing.{record_texts}
use Rattle.tm_records.proofs.Erasing.{erases-all}
use Rattle.tm_records.proofs.erased_command.ErasingStage.finish.Goals as goal

pub returns : goal.returns
returns g c =
    let s = c.args.self.now in
    let a = c.answer_batch in
    let n = c.note_rest-outcome in
    let rest = c.left_over.result in
    let nearest = a.new.self.records.nearest in
    let lines : List Text = record_texts s.records.coding.basis nearest in
    let end : Text = Note (left_over_text rest) in
    record {
      texts = lines ++ end ∷ [];
      handed = HandedOver-push g.W.TextTaker.took c.args.texts.now a.new.texts n.new.texts lines end a.ensures.given
          n.ensures.given;
      finished = λ new given done few h.
          erases-all new.records.coding s.records a.new.self.records s.beyond a.new.self.beyond given done nearest rest
          n.result c.outcome_with.result h.0 a.ensures.coding a.ensures.octets a.ensures.nearest a.ensures.short
          a.ensures.beyond c.left_over.ensures n.ensures.outcome c.outcome_with.ensures h.1;
    }
