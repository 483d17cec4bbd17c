use Rattle.std.proofs.Common.{rules, ◌≡◌, ◌∙◌, refl, subst}
use Rattle.tm_driver.specs.Writing.{Out}
use Rattle.tm_path_commands.proofs.TraceLines.{lines-given}
use Rattle.tm_path_commands.proofs.TraceStage.{traces-end}
use Rattle.tm_path_commands.proofs.trace_command.TracingStage.finish.Goals as goal

pub returns : goal.returns
returns g c =
    let took = g.W.TextTaker.took in
    let s = c.args.self.now in
    let w = c.watch_last-end in
    let read = w.ensures.read in
    let lines = w.new.watch in
    let loan : lines.texts.ghost_name ≡ _ = (lines-given took read.last _ lines read.handed).0 in
    let given : took lines.texts.now (Out c.octets.result.now) c.out.new.self = search rules in
    let m = traces-end took s.inner w.new.inner _ lines c.out.new.self w.result read
    (subst (λ l. took lines.texts.now (Out l) c.out.new.self) (c.octets.ensures ∙ c.trace_end_text.ensures) given) in
    record {
      texts = m.0;
      handed = m.1;
      finished = λ new given done few stood. (refl, m.2 new.inner.config given done stood);
    }
