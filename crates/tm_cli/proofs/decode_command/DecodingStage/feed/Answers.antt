use Rattle.std.proofs.Common.{rules, ◌≡◌, subst}
use Rattle.tm_base.specs.Takers.{HandedOver}
use Rattle.tm_cli.specs.Taken.{texts_by}
use Rattle.tm_cli.specs.declared.reporting.Reporting.{Reporting}
use Rattle.tm_cli.proofs.GivenTexts.{reported}
use Rattle.tm_cli.proofs.Received.{decodes-more}
use Rattle.tm_cli.proofs.decode_command.DecodingStage.feed.Goals as goal

pub returns-clause-goes_on : goal.returns-clause-goes_on
returns-clause-goes_on g c = λ _.
    let s = c.args.self.now in
    let r = c.receive in
    let h = r.ensures.handed in
    let took = g.W.TextTaker.took in
    let given = reported (λ (t : Reporting g.row.W.Denot). t.texts.ghost_name) (λ t. t.counts) (λ t. t.texts.now) took
    h.0 _ r.new.items h.1 in
    let loan : r.new.items.texts.ghost_name ≡ _ = given.0 in
    record {
      texts = texts_by s.counts h.0;
      handed = subst (HandedOver took c.args.texts.now (texts_by s.counts h.0)) (search rules) given.1.over;
      stands = λ new o done few d. decodes-more took s.receiver r.new.receiver s.counts r.new.items.counts _
          r.new.items.texts.now c.args.piece.now h.0 r.ensures.config h.2 given.1 new.receiver.config o done d;
    }
