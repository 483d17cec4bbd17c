use Rattle.std.proofs.Common.{◌≡◌, ◌+◌, ◌-◌, ◌^◌, ◌++◌, ◌∙◌, min, refl, sym, ap, subst, arith}
use Rattle.std.proofs.lemmas.List.{append-nil}
use Rattle.tm_driver.specs.Writing.{Out, Note}
use Rattle.tm_path_commands.specs.Checking.{Passes}
use Rattle.tm_path_commands.specs.Lines.{window_text}
use Rattle.tm_path_commands.specs.declared.check_command.Checking.{Checking}
use Rattle.tm_path_commands.proofs.CheckedWindows.{passes-window, texts_of, window_of}
use Rattle.tm_path_commands.proofs.check_command.Checking.give_window.Goals as goal

pub returns-clause-given : goal.returns-clause-given
returns-clause-given g c =
    let s = c.args.self.now in
    let w = window_of s.reader in
    let took = g.W.TextTaker.took in
    let now : Checking = record {
      reader = c.next_window.new.self;
      tally = record { blocks = c.saturating_add.result; bits = c.saturating_add-2.result };
    } in
    let line : c.octets.result.now ≡ window_text s.tally.blocks w.steps w.kept w.metric =
    c.octets.ensures ∙ c.window_text-line.ensures
    ∙ (λ i. window_text s.tally.blocks (c.steps.ensures i) (c.kept.ensures i) (c.metric.ensures i)) in
    record {
      texts = texts_of s;
      handed = (
        c.out.new.self,
        subst (λ l. took c.args.texts.now (Out l) c.out.new.self) c.kept_octets.ensures c.out.ensures,
        (c.note.new.self, subst (λ l. took c.out.new.self (Note l) c.note.new.self) line c.note.ensures, refl),
      );
      stands = λ new given done few p. (
        c.next_window.ensures.open,
        subst (λ o. Passes new now o (done ++ texts_of s)) (sym (append-nil given))
            (passes-window new s now given done (omega arith) c.requires c.next_window.ensures.rules
            (λ windows. c.next_window.ensures.stands given windows) c.saturating_add.ensures
            (c.saturating_add-2.ensures ∙ ap (λ n. min (s.tally.bits + n) (2 ^ 64 - 1))
            (c.from.ensures ∙ c.kept-2.ensures)) p),
      );
    }
