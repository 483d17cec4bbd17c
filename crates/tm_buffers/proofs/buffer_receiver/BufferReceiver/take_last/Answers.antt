use Rattle.std.proofs.Common.{rules, [], ◌≡◌, ◌++◌, sym, subst}
use Rattle.tm_base.specs.Handed.{items_of}
use Rattle.tm_channel.specs.OctetReceiving.{OctetReceiving}
use Rattle.tm_channel.specs.declared.totals.Totals.{Totals}
use Rattle.tm_channel.specs.Handing.{AreReceived}
use Rattle.tm_inner.specs.Phase.{IsChosen}
use Rattle.tm_channel.specs.Most.{AreFew}
use Rattle.tm_config.specs.Configuration.{Configuration}
use Rattle.tm_inner.specs.InnerWindows.{AreLastWindows, AreWindows}
use Rattle.tm_inner.proofs.DecodedWindows.{told-rest}
use Rattle.tm_buffers.specs.Receiving.{IsReceiving}
use Rattle.tm_buffers.proofs.WrittenItems.{collected, enough, has-written, written_of}
use Rattle.tm_buffers.proofs.buffer_receiver.BufferReceiver.take_last.Goals as goal
use Rattle.tm_buffers.proofs.buffer_receiver.BufferReceiver.take_last.Goals.{in-Some, in-None}

pub returns-clause-received : goal.returns-clause-received
returns-clause-received g c = λ given done is.
    let r = c.end-ended in
    let at = subst (λ (k : OctetReceiving). IsReceiving k given done) (sym c.self.view_is) is in
    let stood = at.stands in
    elim c.match-ended.branch [
      | in-Some w ↦
          let e = w.in-Some.ensures in
          let h = e.tells.handed in
          let taker = r.new.items in
          let got = collected _ _ c.args.frames.now c.args.reports.now _ taker h.0 c.over-taker.ensures h.1 in
          let loan : taker.frames.ghost_name ≡ _ = got.loan in
          let reports_loan : taker.reports.ghost_name ≡ _ = got.reports_loan in
          let written = has-written _ _ c.args.frames.now c.args.reports.now taker (items_of h.0) got in
          let last = told-rest c.self.inside.receiver.stages.inner given (stood.blocks ++ []) e.watched.0
          stood.progress.inner (λ blocks is. c.self.invariant at.going stood.going given blocks is stood.so_far)
          (λ before told. subst (λ (k : Configuration). AreWindows k given (before ++ e.watched.0)) (sym r.ensures.of.0)
          (e.watched.2 given before told)) in
          let known = subst (λ (k : OctetReceiving). AreReceived k.config given (done ++ h.0) w.in-Some.received
          × IsChosen k.config given r.new.self.stages.inner.chosen
          × AreFew k.config 0 (items_of h.0) × AreLastWindows k.config given e.watched.0) c.self.view_is (
            h.2 given done stood,
            e.tells.chosen given done stood at.going,
            h.3 given done stood,
            subst (λ (k : Configuration). AreLastWindows k given e.watched.0) r.ensures.of.0 last,
          ) in (
            record {
              last = h.0;
              all = subst (λ (t : Totals). AreReceived c.args.self.now.config given (done ++ h.0) t)
                  (sym w.totals-is) known.0;
              written = search rules;
              enough = enough c.args.self.now.config 0 _ (items_of h.0) _ taker.frames.now _ taker.reports.now
                  (written_of taker.count taker.octets) known.2 (search rules);
              chosen = known.1;
            },
            (e.watched.0, e.watched.1, known.3),
          )
      | in-None w ↦ absurd (search rules)
    ]
