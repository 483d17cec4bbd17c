use Rattle.std.proofs.Common.{◌∙◌, true, false, [], ◌∷◌, refl, sym, ap, subst}
use Rattle.tm_driver.specs.Writing.{Note}
use Rattle.tm_path_commands.specs.Lines.{cut_text, trace_end_text}
use Rattle.tm_path_commands.proofs.CheckedWindows.{checks-all}
use Rattle.tm_path_commands.proofs.check_command.CheckingStage.finish.Goals as goal

pub returns-then-is_cut : goal.returns-then-is_cut
returns-then-is_cut g c =
    let s = c.args.self.now in
    let line = cut_text s.tally.blocks in record {
      texts = Note line ∷ [];
      handed = (
        c.note.new.self,
        subst (λ l. g.W.TextTaker.took c.args.texts.now (Note l) c.note.new.self)
            (c.octets.ensures ∙ c.cut_text.ensures) c.note.ensures,
        refl,
      );
      finished = λ new given done few p.
          checks-all new s given done true line (sym c.is_cut.ensures ∙ c.if-is_cut.true) p (ap cut_text p.1.blocks);
    }

pub returns : goal.returns
returns g c =
    let s = c.args.self.now in
    let line = trace_end_text s.tally.blocks s.tally.bits 0 in record {
      texts = Note line ∷ [];
      handed = (
        c.note-2.new.self,
        subst (λ l. g.W.TextTaker.took c.args.texts.now (Note l) c.note-2.new.self)
            (c.octets-2.ensures ∙ c.trace_end_text.ensures) c.note-2.ensures,
        refl,
      );
      finished = λ new given done few p.
          checks-all new s given done false line (sym c.is_cut.ensures ∙ c.if-is_cut.false) p
          (λ i. trace_end_text (p.1.blocks i) (p.1.bits i) 0);
    }
