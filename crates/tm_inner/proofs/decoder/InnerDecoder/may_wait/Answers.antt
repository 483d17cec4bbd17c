use Rattle.std.proofs.Common.{sym, subst, Option}
use Rattle.tm_windows.specs.Queue.{Queueing}
use Rattle.tm_inner.specs.InnerDecoding.{GoesWith, InnerDecoding, IsQueueOf}
use Rattle.tm_inner.proofs.Decoders.{decoding}
use Rattle.tm_inner.proofs.DecoderCalls.{Waits, waits-queue}
use Rattle.tm_inner.proofs.decoder.InnerDecoder.may_wait.Goals as goal

pub returns-in-Some-clause-waits : goal.returns-in-Some-clause-waits
returns-in-Some-clause-waits c = λ waits.
    let s = c.self.inside in
    let of = subst (IsQueueOf s.config) c.in-Some.is c.self.invariant.0 in
    let goes = subst (λ (o : Option Queueing). GoesWith o s.count s.has_ended) c.in-Some.is c.self.invariant.1 in
    let h = c.may_wait.ensures.waits waits in
    subst (λ (d : InnerDecoding). Waits d c.args.bits) c.self.view_is
    (subst (λ (o : Option Queueing). Waits (decoding s.config o s.count s.has_phase s.has_ended) c.args.bits)
    (sym c.in-Some.is)
    (waits-queue s.config c.in-Some.queue s.count c.args.bits s.has_phase s.has_ended of goes.0 h.0
    (λ given done stood. let due = h.1 given done stood in (due.0, due.1, due.2))))
