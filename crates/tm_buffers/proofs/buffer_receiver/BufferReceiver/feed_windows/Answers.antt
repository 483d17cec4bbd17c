use Rattle.std.proofs.Common.{rules, ◌≡◌, length, arith, subst}
use Rattle.tm_inner.specs.InnerWindows.{AreFurtherWindows}
use Rattle.tm_buffers.specs.Receiving.{Receives}
use Rattle.tm_buffers.specs.declared.items.Written.{Written}
use Rattle.tm_buffers.proofs.FewWindows.{further-most}
use Rattle.tm_buffers.proofs.WrittenWindows.{gathered, no-windows, windows-written}
use Rattle.tm_buffers.proofs.buffer_receiver.BufferReceiver.feed_windows.Goals as goal

pub returns-clause-received : goal.returns-clause-received
returns-clause-received c = λ given done few is.
    let d = c.args.self.now in
    let octets = c.args.octets.now in
    let t = c.take-count in
    let e = t.ensures in
    let received = e.received given done few is in
    let told = received.1 in
    let watch = t.new.watch in
    let got = gathered _ c.args.windows.now _ watch told.0 c.over-watch.ensures told.1 in
    let loan : watch.windows.ghost_name ≡ _ = got.loan in
    let items = subst (λ (s : Written). Receives d t.new.self given octets done t.result c.args.frames.now t.new.frames
    c.args.reports.now t.new.reports s) (no-windows t.new.written received.0.written.windows) received.0 in
    let written = windows-written (AreFurtherWindows d.config given octets) d.config (length octets) _
    c.args.windows.now told.0 watch t.result t.new.written told.2 got
    (λ most. further-most d.config given octets told.0 most (omega (arith, e.accepted.some_keep)) told.2) in
    (t.result, search rules, search rules)
