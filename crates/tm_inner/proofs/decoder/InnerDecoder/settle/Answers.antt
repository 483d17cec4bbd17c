use Rattle.std.proofs.Common.{true, sym, subst, Option, Some}
use Rattle.tm_windows.specs.Queue.{Queueing}
use Rattle.tm_inner.specs.InnerDecoding.{InnerDecoding, IsQueueOf}
use Rattle.tm_inner.specs.declared.decoder.InnerDecoder.TheInside.{Inside}
use Rattle.tm_inner.proofs.Decoders.{decoding}
use Rattle.tm_inner.proofs.DecoderCalls.{Settles, settles-plain, settles-queue}
use Rattle.tm_inner.proofs.decoder.InnerDecoder.settle.Goals as goal
use Rattle.tm_inner.proofs.decoder.InnerDecoder.settle.Goals.{in-Some, in-None}

pub returns-clause-stands : goal.returns-clause-stands
returns-clause-stands c =
    let s = c.self.inside in
    let Said : Option Queueing → Inside → Type 0 = λ before now.
    Settles (decoding s.config before s.count s.has_phase s.has_ended)
    (decoding now.config now.queue now.count now.has_phase now.has_ended) in
    let said : Said s.queue c.match-self.self-inside = elim c.match-self.branch as
    (λ _. Said s.queue c.match-self.self-inside) [
      | in-Some w ↦ (
          let now = w.settle.new.self in
          let of = subst (IsQueueOf s.config) w.in-Some.is c.self.invariant.0 in
          subst (Said s.queue) (sym w.self-inside-is)
          (subst (λ (o : Option Queueing). Said o (record s { queue = Some now; has_ended = true })) (sym w.in-Some.is)
          (settles-queue s.config w.in-Some.queue now s.count s.has_phase s.has_ended of w.settle.ensures.same.0
          w.settle.ensures.ended w.settle.ensures.stands))
          )
      | in-None w ↦ (
          subst (Said s.queue) (sym w.self-inside-is)
          (subst (λ (o : Option Queueing). Said o (record s { queue = o; has_ended = true })) (sym w.in-None.is)
          (settles-plain s.config s.count s.has_phase s.has_ended
          (subst (IsQueueOf s.config) w.in-None.is c.self.invariant.0)))
          )
    ] in
    let now = c.match-self.self-inside in
    subst (λ (d : InnerDecoding). Settles d (decoding now.config now.queue now.count now.has_phase now.has_ended))
    c.self.view_is said
