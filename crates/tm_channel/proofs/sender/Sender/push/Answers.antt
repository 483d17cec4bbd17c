use Rattle.std.proofs.Common.{◌≡◌, ◌+◌, ◌-◌, ◌<◌, ◌++◌, ◌∙◌, List, ℕ, ap, arith, drop, length, subst, take, take-append-drop}
use Rattle.std.proofs.lemmas.Bool.{false_from_ne_true}
use Rattle.std.proofs.lemmas.Grind.{common_steps}
use Rattle.std.proofs.lemmas.Result.{err_from_is_err_and}
use Rattle.tm_channel.specs.Sending.{Sending, Sends, SendsPrefix}
use Rattle.tm_channel.proofs.Sending.{prefix-of, rest-taken, sends-more, sends-of, sends-prefix}
use Rattle.tm_channel.proofs.sender.Sender.push.Goals as goal

pub loop-done-preserved : goal.loop-done-preserved
loop-done-preserved g c =
    let P : Sending → Type 0 = λ s. 0 < s.config.frame_length in
    let s = c.args.self.now in
    let l = c.loop-done in
    let f = l.self-inside in
    let t = c.take-taken in
    let p = c.push in
    let octets = c.args.octets.now in
    let piece = take t.result.0 (take (length octets - l.done) (drop l.done octets)) in
    let now : Sending = record { config = f.config; held = take t.new.self.count t.new.self.octets; inner = p.new.self } in
    record {
      within = grind (arith, common_steps);
      partial = t.ensures.partial;
      same = p.ensures.config ∙ l.invariant.same;
      going = false_from_ne_true p.new.self.has_failed c.in_ok-push.ensures.failed.0;
      faults = c.in_ok-push.ensures.same (λ (e : _ ≡ _). cc) ∙ l.invariant.faults;
      sent = subst (Sends s now (g.O.Sink.taken c.args.out.now) (g.O.Sink.taken p.new.out))
          (rest-taken l.done t.result.0 octets)
          (sends-more s _ now (g.O.Sink.taken c.args.out.now) (g.O.Sink.taken l.out) (g.O.Sink.taken p.new.out)
          (take l.done octets) piece (subst P c.self.view_is (omega arith)) l.invariant.sent
          (sends-of f.config f.inner p.new.self _ _ piece _ (omega arith) t.ensures.framed l.invariant.same
          (g.O.Sink.taken l.out) (g.O.Sink.taken p.new.out) c.in_ok-push.ensures.sent));
    }

pub returns-in_err-push-clause-prefix : goal.returns-in_err-push-clause-prefix
returns-in_err-push-clause-prefix g c = λ failed.
    let P : Sending → Type 0 = λ s. 0 < s.config.frame_length in
    let s = c.args.self.now in
    let l = c.loop-done in
    let f = l.self-inside in
    let t = c.take-taken in
    let p = c.push in
    let octets = c.args.octets.now in
    let taken = g.O.Sink.taken c.args.out.now in
    let now = g.O.Sink.taken p.new.out in
    let piece = take t.result.0 (take (length octets - l.done) (drop l.done octets)) in
    let rest = drop (l.done + t.result.0) octets in
    let here : Sending = record { config = f.config; held = take f.frame.count f.frame.octets; inner = f.inner } in
    let sink = err_from_is_err_and c.from_residual.result c.from_residual.ensures.1 in
    subst (SendsPrefix s taken now)
    (ap (λ (all : List ℕ). all ++ rest) (rest-taken l.done t.result.0 octets)
    ∙ take-append-drop (l.done + t.result.0) octets)
    (sends-prefix s here taken (g.O.Sink.taken l.out) now (take l.done octets) piece rest
    (subst P c.self.view_is (omega arith)) l.invariant.sent
    (prefix-of f.config f.inner p.new.self _ _ piece _ (omega arith) t.ensures.framed l.invariant.same
    (g.O.Sink.taken l.out) now (c.in_err-push.ensures.prefix (cc (sink.1, sink.2, failed)))))
