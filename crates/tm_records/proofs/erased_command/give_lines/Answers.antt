use Rattle.std.proofs.Common.{◌∙◌, ◌||◌, List, ap, arith, subst, sym, take}
use Rattle.std.specs.List.{list_any}
use Rattle.std.proofs.lemmas.List.{take_all}
use Rattle.tm_base.specs.Takers.{HandedOver}
use Rattle.tm_base.proofs.Handing.{HandedOver-push}
use Rattle.tm_driver.specs.Writing.{Text, Out}
use Rattle.tm_rs.specs.Answers.{found_erased}
use Rattle.tm_records.specs.Erased.{is_beyond, nearest_text}
use Rattle.tm_records.specs.Erasing.{record_texts}
use Rattle.tm_records.proofs.Erasing.{beyond-more, line-is, texts-more}
use Rattle.tm_records.proofs.erased_command.give_lines.Goals as goal

pub loop-index-preserved : goal.loop-index-preserved
loop-index-preserved g c =
    let took = g.W.TextTaker.took in
    let l = c.loop-index in
    let basis = c.args.records.now.coding.basis in
    let nearest = c.args.records.now.nearest in
    let found = c.answer-found.ensures.answer in
    let x = found_erased c.answer-found.result found.0 in
    let start = c.args.texts.now in
    let now = c.out.new.self in
    record {
      given = subst (λ (t : List Text). HandedOver took start t now) (sym (texts-more basis nearest l.index x found.1))
          (HandedOver-push took start l.texts now (record_texts basis (take l.index nearest))
          (Out (nearest_text basis x)) l.invariant.given
          (subst (λ o. took l.texts (Out o) now) (c.octets.ensures ∙ c.erased_text.ensures
          ∙ line-is c.answer-found.result basis found.0 c.answer-found.new.octets found.2) c.out.ensures));
      known = (λ i. l.invariant.known i || c.is_beyond-beyond.ensures found.0 i)
          ∙ sym (beyond-more nearest l.index x found.1);
    }

pub returns-clause-given : goal.returns-clause-given
returns-clause-given g c =
    let l = c.loop-index in
    let records = c.args.records.now in
    subst (λ found. HandedOver g.W.TextTaker.took c.args.texts.now (record_texts records.coding.basis found) l.texts)
    (take_all l.index records.nearest (omega arith)) l.invariant.given

pub returns-clause-beyond : goal.returns-clause-beyond
returns-clause-beyond g c =
    let l = c.loop-index in
    l.invariant.known ∙ ap (list_any is_beyond) (take_all l.index c.args.records.now.nearest (omega arith))
