use Rattle.std.proofs.Common.{rules, ◌≡◌, [], ◌∷◌, ◌++◌, subst}
use Rattle.tm_base.specs.Takers.{HandedOver}
use Rattle.tm_base.proofs.Handing.{HandedOver-push}
use Rattle.tm_driver.specs.Writing.{Note}
use Rattle.tm_cli.specs.Lines.{totals_text}
use Rattle.tm_cli.specs.Taken.{texts_by}
use Rattle.tm_cli.specs.declared.reporting.Reporting.{Reporting}
use Rattle.tm_cli.proofs.GivenTexts.{reported}
use Rattle.tm_cli.proofs.Received.{decodes-end}
use Rattle.tm_cli.proofs.decode_command.DecodingStage.finish.Goals as goal

pub returns : goal.returns
returns g c =
    let s = c.args.self.now in
    let r = c.finish-totals in
    let h = r.ensures.handed in
    let took = g.W.TextTaker.took in
    let given = reported (λ (t : Reporting g.row.W.Denot). t.texts.ghost_name) (λ t. t.counts) (λ t. t.texts.now) took
    h.0 _ r.new.items h.1 in
    let loan : r.new.items.texts.ghost_name ≡ _ = given.0 in
    let end = Note (totals_text r.new.items.counts r.result) in
    record {
      texts = texts_by s.counts h.0 ++ end ∷ [];
      handed = subst (HandedOver took c.args.texts.now (texts_by s.counts h.0 ++ end ∷ [])) (search rules)
          (HandedOver-push took _ r.new.items.texts.now c.end_report.new.texts (texts_by s.counts h.0) end given.1.over
          c.end_report.ensures.given);
      finished = λ new o done few d. decodes-end took s.receiver s.counts r.new.items.counts _ r.new.items.texts.now h.0
          r.result c.end_report.result h.2 c.end_report.ensures.outcome given.1 new.receiver.config o done few d;
    }
