use Rattle.std.proofs.Common.{rules, ◌≡◌, arith, subst}
use Rattle.tm_inner.specs.InnerWindows.{AreLastWindows}
use Rattle.tm_buffers.specs.Receiving.{ReceivesLast}
use Rattle.tm_buffers.specs.declared.items.Written.{Written}
use Rattle.tm_buffers.proofs.FewWindows.{last-most}
use Rattle.tm_buffers.proofs.WrittenWindows.{gathered, no-windows, windows-written}
use Rattle.tm_buffers.proofs.buffer_receiver.BufferReceiver.finish_windows.Goals as goal

pub returns-clause-received : goal.returns-clause-received
returns-clause-received c = λ given done is.
    let d = c.args.self.now in
    let t = c.take_last-count in
    let e = t.ensures in
    let received = e.received given done is in
    let told = received.1 in
    let watch = t.new.watch in
    let got = gathered _ c.args.windows.now _ watch told.0 c.over-watch.ensures told.1 in
    let loan : watch.windows.ghost_name ≡ _ = got.loan in
    let items = subst (λ (s : Written). ReceivesLast d t.new.self given done t.result t.new.totals c.args.frames.now
    t.new.frames c.args.reports.now t.new.reports s) (no-windows t.new.written received.0.written.windows) received.0 in
    let written = windows-written (AreLastWindows d.config given) d.config 0 _ c.args.windows.now told.0 watch
    t.result t.new.written told.2 got
    (λ most. last-most d.config given told.0 most (omega (arith, e.accepted.some_keep)) told.2) in
    (t.result, search rules, search rules)
