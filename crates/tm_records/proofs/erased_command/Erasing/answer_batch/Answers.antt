use Rattle.std.proofs.Common.{subst}
use Rattle.tm_base.specs.Takers.{HandedOver}
use Rattle.tm_records.specs.Erasing.{record_texts}
use Rattle.tm_records.specs.declared.coding.Coding.{Coding}
use Rattle.tm_records.proofs.erased_command.Erasing.answer_batch.Goals as goal

pub returns-clause-given : goal.returns-clause-given
returns-clause-given g c =
    subst (λ (k : Coding). HandedOver g.W.TextTaker.took c.args.texts.now
    (record_texts k.basis c.decode.new.self.nearest) c.give_lines-beyond.new.texts) c.decode.ensures.coding
    c.give_lines-beyond.ensures.given
