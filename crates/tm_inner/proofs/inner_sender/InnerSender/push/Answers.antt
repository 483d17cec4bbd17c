use Rattle.std.proofs.Common.{◌≡◌, ◌+◌, ◌-◌, ◌++◌, ◌∙◌, List, ℕ, ap, arith, drop, false, refl, subst, take, take-append-drop}
use Rattle.std.proofs.lemmas.Grind.{common_steps}
use Rattle.tm_base.proofs.Pieces.{piece-joined}
use Rattle.tm_inner.specs.Sending.{InnerSending, InnerSends, InnerSendsPrefix}
use Rattle.tm_inner.proofs.Sending.{sends-more, sends-none, sends-prefix}
use Rattle.tm_inner.proofs.inner_sender.InnerSender.push.Goals as goal

pub loop-done-init : goal.loop-done-init
loop-done-init g c =
    let P : InnerSending → Type 0 = λ s. s.has_failed ≡ false in
    record {
      within = omega arith;
      going = subst P c.self.view_is c.if-self.false;
      faults = refl;
      sent = sends-none c.args.self.now (g.O.Sink.taken c.args.out.now);
    }

pub loop-done-preserved : goal.loop-done-preserved
loop-done-preserved g c =
    let s = c.args.self.now in
    let l = c.loop-done in
    let r = c.symbols-count in
    let octets = c.args.octets.now in
    let taken = g.O.Sink.taken c.args.out.now in
    let now = g.O.Sink.taken c.put_all.new.out in
    record {
      within = grind (arith, common_steps);
      going = r.ensures.failed ∙ l.invariant.going;
      faults = grind (arith, common_steps);
      sent = subst (InnerSends s r.new.self taken now) (piece-joined l.done c.min.result octets)
          (sends-more s l.self r.new.self taken (g.O.Sink.taken l.out) now (take l.done octets)
          (take ((l.done + c.min.result) - l.done) (drop l.done octets)) (take r.result r.new.room) l.invariant.sent
          r.ensures.made c.in-Ok.ensures.ok);
    }

pub returns-in-Err-clause-prefix : goal.returns-in-Err-clause-prefix
returns-in-Err-clause-prefix g c = λ _.
    let s = c.args.self.now in
    let l = c.loop-done in
    let r = c.symbols-count in
    let octets = c.args.octets.now in
    let taken = g.O.Sink.taken c.args.out.now in
    let now = g.O.Sink.taken c.put_all.new.out in
    let rest = drop (l.done + c.min.result) octets in
    let part = c.in-Err.ensures.err in
    subst (InnerSendsPrefix s taken now)
    (ap (λ (all : List ℕ). all ++ rest) (piece-joined l.done c.min.result octets)
    ∙ take-append-drop (l.done + c.min.result) octets)
    (sends-prefix s l.self r.new.self taken (g.O.Sink.taken l.out) now (take l.done octets)
    (take ((l.done + c.min.result) - l.done) (drop l.done octets)) rest (take r.result r.new.room) l.invariant.sent
    r.ensures.made (part.0, part.2))
