use Rattle.std.proofs.Common.{rules, ◌≡◌}
use Rattle.tm_driver.specs.Staged.{Takes}
use Rattle.tm_inner.proofs.ReadOctets.{hands-all}
use Rattle.tm_path_commands.specs.Tracing.{Traces}
use Rattle.tm_path_commands.proofs.TraceLines.{lines-given}
use Rattle.tm_path_commands.proofs.TraceStage.{traces-more}
use Rattle.tm_path_commands.proofs.trace_command.TracingStage.feed.Goals as goal

pub returns-clause-goes_on : goal.returns-clause-goes_on
returns-clause-goes_on g c = λ _.
    let took = g.W.TextTaker.took in
    let s = c.args.self.now in
    let w = c.watch_due in
    let lines = w.new.watch in
    let due = w.ensures.read in
    let piece = c.args.piece.now in
    let loan : lines.texts.ghost_name ≡ _ = (lines-given took due.read.more _ lines due.read.handed).0 in
    let m = traces-more took s.inner w.new.inner _ lines piece due.config
    (hands-all _ s.inner w.new.inner _ lines piece c.requires.ready due) in
    let taken : Takes took (λ s t octets texts. Traces s.inner.config t.inner t.tally octets texts)
    (λ s t octets texts. Traces s.inner.config t.inner t.tally octets texts) s
    (record { inner = w.new.inner; tally = lines.tally }) c.args.texts.now lines.texts.now piece = record {
      texts = m.0;
      handed = m.1;
      stands = λ new given done few stood. m.2 new.inner.config given done few stood;
    } in
    search rules
