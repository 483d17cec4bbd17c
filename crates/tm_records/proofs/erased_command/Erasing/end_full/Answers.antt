use Rattle.std.proofs.Common.{◌∙◌, ◌++◌, Bool, List, subst, sym}
use Rattle.std.proofs.lemmas.List.{append-nil}
use Rattle.tm_driver.specs.Writing.{Text}
use Rattle.tm_driver.proofs.FedStage.{takes-none}
use Rattle.tm_records.specs.Erasing.{Erases, Holds, record_texts}
use Rattle.tm_records.proofs.Erasing.{held-full}
use Rattle.tm_records.proofs.erased_command.Erasing.end_full.Goals as goal

pub returns-then-is_full-clause-given : goal.returns-then-is_full-clause-given
returns-then-is_full-clause-given g c =
    let s = c.args.self.now in
    let a = c.answer_batch in
    let nearest = a.new.self.records.nearest in
    let lines : List Text = record_texts s.records.coding.basis nearest in
    record {
      texts = lines;
      handed = a.ensures.given;
      stands = λ new given done few h.
          subst (λ o. Holds new.records.coding c.clear.new.self a.new.self.beyond o (done ++ lines))
          (sym (append-nil given))
          (subst (λ (b : Bool). Holds new.records.coding c.clear.new.self b given (done ++ lines)) (sym a.ensures.beyond)
          (held-full new.records.coding s.records c.clear.new.self s.beyond given done nearest
          (c.clear.ensures.coding ∙ a.ensures.coding) c.clear.ensures.octets (c.is_full.ensures.full.0 c.if-is_full.true)
          c.is_full.ensures.some a.ensures.nearest h));
    }

pub returns-else-is_full-clause-given : goal.returns-else-is_full-clause-given
returns-else-is_full-clause-given g c = takes-none g.W.TextTaker.took Erases c.args.self.now c.args.texts.now
