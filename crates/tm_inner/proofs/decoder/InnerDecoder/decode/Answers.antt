use Rattle.std.proofs.Common.{◌++◌, length, refl, ap, arith, sym, subst, Option, Some}
use Rattle.tm_windows.specs.Queue.{Queueing}
use Rattle.tm_inner.specs.InnerDecoding.{GoesWith, InnerDecoding, IsQueueOf, ready_in}
use Rattle.tm_inner.specs.Phase.{phase_octets}
use Rattle.tm_inner.specs.declared.decoder.InnerDecoder.TheInside.{Inside}
use Rattle.tm_inner.proofs.Decoders.{decoding, lost-in}
use Rattle.tm_inner.proofs.DecoderCalls.{Runs, runs-plain, runs-queue}
use Rattle.tm_inner.proofs.ReadWindows.{Reads, ReadsOctets, reads-queue}
use Rattle.tm_inner.proofs.decoder.InnerDecoder.decode.Goals as goal
use Rattle.tm_inner.proofs.decoder.InnerDecoder.decode.Goals.{in-Some, in-None}

pub returns-clause-stands : goal.returns-clause-stands
returns-clause-stands g c =
    let s = c.self.inside in
    let Said : Option Queueing → Inside → Type 0 = λ before now.
    Runs (decoding s.config before s.count s.has_phase s.has_ended)
    (decoding now.config now.queue now.count now.has_phase now.has_ended) (ready_in now.queue) in
    let said : Said s.queue c.match-self.self-inside = elim c.match-self.branch as
    (λ _. Said s.queue c.match-self.self-inside) [
      | in-Some w ↦ (
          let now = w.decode.new.self in
          let of = subst (IsQueueOf s.config) w.in-Some.is c.self.invariant.0 in
          let goes = subst (λ (o : Option Queueing). GoesWith o s.count s.has_ended) w.in-Some.is c.self.invariant.1 in
          subst (Said s.queue) (sym w.self-inside-is)
          (subst (λ (o : Option Queueing). Said o (record s { queue = Some now })) (sym w.in-Some.is)
          (runs-queue s.config w.in-Some.queue now s.count s.has_phase s.has_ended of w.decode.ensures.same goes.0
          w.decode.ensures.ended w.decode.ensures.stands
          (λ none. w.decode.ensures.waits (omega (arith, w.decode.ensures.count, ap length none)))))
          )
      | in-None w ↦ (
          subst (Said s.queue) (sym w.self-inside-is)
          (subst (λ (o : Option Queueing). Said o (record s { queue = o })) (sym w.in-None.is)
          (runs-plain s.config s.count s.has_phase s.has_ended
          (subst (IsQueueOf s.config) w.in-None.is c.self.invariant.0)))
          )
    ] in
    let now = c.match-self.self-inside in
    subst (λ (d : InnerDecoding). Runs d (decoding now.config now.queue now.count now.has_phase now.has_ended)
    (ready_in now.queue)) c.self.view_is said

pub returns-clause-windows : goal.returns-clause-windows
returns-clause-windows g c =
    let s = c.self.inside in
    let Said : Option Queueing → Inside → Type 0 = λ before now.
    Reads (decoding s.config before s.count s.has_phase s.has_ended)
    (decoding now.config now.queue now.count now.has_phase now.has_ended) in
    let said : Said s.queue c.match-self.self-inside = elim c.match-self.branch as
    (λ _. Said s.queue c.match-self.self-inside) [
      | in-Some w ↦ (
          let now = w.decode.new.self in
          let h = w.decode.ensures in
          let of = subst (IsQueueOf s.config) w.in-Some.is c.self.invariant.0 in
          subst (Said s.queue) (sym w.self-inside-is)
          (subst (λ (o : Option Queueing). Said o (record s { queue = Some now })) (sym w.in-Some.is)
          (reads-queue s.config w.in-Some.queue now s.count s.has_phase s.has_ended of h.same h.later
          (λ given done stood. lost-in now given (done ++ now.ready) (h.stands given done stood))
          (λ some. h.read (omega (arith, h.count, some)))))
          )
      | in-None w ↦ (
          subst (Said s.queue) (sym w.self-inside-is)
          (subst (λ (o : Option Queueing). Said s.queue (record s { queue = o })) (sym w.in-None.is)
          (λ given blocks stood. refl))
          )
    ] in
    let now = c.match-self.self-inside in
    subst (λ (d : InnerDecoding). Reads d (decoding now.config now.queue now.count now.has_phase now.has_ended))
    c.self.view_is said

pub returns-clause-read : goal.returns-clause-read
returns-clause-read g c =
    let s = c.self.inside in
    let Said : Option Queueing → Inside → Type 0 = λ before now.
    ReadsOctets (decoding s.config before s.count s.has_phase s.has_ended)
    (decoding now.config now.queue now.count now.has_phase now.has_ended) in
    let said : Said s.queue c.match-self.self-inside = elim c.match-self.branch as
    (λ _. Said s.queue c.match-self.self-inside) [
      | in-Some w ↦ subst (Said s.queue) (sym w.self-inside-is)
          (subst (λ (o : Option Queueing). Said o (record s { queue = Some w.decode.new.self })) (sym w.in-Some.is)
          (λ given blocks stood some. w.decode.ensures.read (omega (arith, w.decode.ensures.count, some))
          (phase_octets s.config given) blocks stood.decodes))
      | in-None w ↦ subst (Said s.queue) (sym w.self-inside-is)
          (subst (λ (o : Option Queueing). Said s.queue (record s { queue = o })) (sym w.in-None.is)
          (λ given blocks stood. tt))
    ] in
    let now = c.match-self.self-inside in
    subst (λ (d : InnerDecoding). ReadsOctets d (decoding now.config now.queue now.count now.has_phase now.has_ended))
    c.self.view_is said
