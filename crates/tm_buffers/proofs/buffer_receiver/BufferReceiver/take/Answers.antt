use Rattle.std.proofs.Common.{rules, [], ◌≡◌, ◌∙◌, ◌++◌, length, sym, subst, arith}
use Rattle.tm_base.specs.Handed.{items_of}
use Rattle.tm_channel.specs.OctetReceiving.{OctetReceiving}
use Rattle.tm_channel.specs.Handing.{AreReceivedDue}
use Rattle.tm_channel.specs.Most.{AreFew}
use Rattle.tm_config.specs.Configuration.{Configuration}
use Rattle.tm_inner.specs.InnerWindows.{AreFurtherWindows}
use Rattle.tm_inner.proofs.DecodedWindows.{told-further}
use Rattle.tm_buffers.specs.Receiving.{IsReceiving}
use Rattle.tm_buffers.proofs.WrittenItems.{collected, enough, has-written, written_of}
use Rattle.tm_buffers.proofs.buffer_receiver.BufferReceiver.take.Goals as goal

pub returns-clause-received : goal.returns-clause-received
returns-clause-received g c = λ given done few is.
    let r = c.receive-went in
    let e = r.ensures in
    let went = c.if-not-went.false in
    let octets = c.args.octets.now in
    let h = e.tells.handed went in
    let taker = r.new.items in
    let got = collected _ _ c.args.frames.now c.args.reports.now _ taker h.0 c.over-taker.ensures h.1 in
    let loan : taker.frames.ghost_name ≡ _ = got.loan in
    let reports_loan : taker.reports.ghost_name ≡ _ = got.reports_loan in
    let written = has-written _ _ c.args.frames.now c.args.reports.now taker (items_of h.0) got in
    let at = subst (λ (k : OctetReceiving). IsReceiving k given done) (sym c.self.view_is) is in
    let stood = at.stands in
    let there = h.2 given done few stood in
    let w = e.watched stood.going went in
    let further = told-further g.W.WindowWatch.took c.self.inside.receiver.stages.inner r.new.self.stages.inner
    c.args.watch.now r.new.watch given octets (stood.blocks ++ []) w (e.of.1 ∙ sym e.of.0) few stood.progress.inner
    (λ blocks is. c.self.invariant at.going stood.going given blocks is stood.so_far)
    (λ blocks is. e.all (omega arith) went there.0.going (given ++ octets) blocks is there.0.so_far) in
    let known = subst (λ (k : OctetReceiving). AreReceivedDue k.config (given ++ octets) (done ++ h.0)
    × AreFew k.config (length octets) (items_of h.0) × AreFurtherWindows k.config given octets w.more) c.self.view_is (
      there.1,
      h.3 given done few stood,
      subst (λ (k : Configuration). AreFurtherWindows k given octets w.more) e.of.0
          further,
    ) in (
      record {
        more = h.0;
        receiving = record { going = e.tells.going went; stands = there.0 };
        due = known.0;
        written = search rules;
        enough = enough c.args.self.now.config (length octets) _ (items_of h.0) _ taker.frames.now _ taker.reports.now
            (written_of taker.count taker.octets) known.1 (search rules);
      },
      (w.more, w.handed, known.2),
    )
