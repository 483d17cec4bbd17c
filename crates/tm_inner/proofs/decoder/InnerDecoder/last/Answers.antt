use Rattle.std.proofs.Common.{◌≡◌, ◌≤◌, ◌∙◌, ℕ, List, [], ◌∷◌, length, drop, refl, ap, arith, sym, subst, if◌then◌else◌, Option, Some, None}
use Rattle.tm_viterbi.specs.WindowBlock.{WindowBlock}
use Rattle.tm_windows.specs.Queue.{Queueing}
use Rattle.tm_windows.specs.Windows.{dropped_of}
use Rattle.tm_inner.specs.InnerDecoding.{InnerDecoding, IsQueueOf, lost_in, ready_in}
use Rattle.tm_inner.specs.Phase.{phase_octets}
use Rattle.tm_inner.specs.declared.decoder.InnerDecoder.TheInside.{Inside}
use Rattle.tm_inner.specs.declared.decoder.InnerEnd.{InnerEnd}
use Rattle.tm_inner.proofs.Decoders.{decoding}
use Rattle.tm_inner.proofs.DecoderCalls.{Ends, ends-plain, ends-queue}
use Rattle.tm_inner.proofs.PlainBits.{count-few}
use Rattle.tm_inner.proofs.ReadWindows.{Reads, ReadsOctets, reads-queue}
use Rattle.tm_inner.proofs.decoder.InnerDecoder.last.Goals as goal
use Rattle.tm_inner.proofs.decoder.InnerDecoder.last.Goals.{in-Some, in-None}

pub returns-clause-ends : goal.returns-clause-ends
returns-clause-ends c =
    let s = c.self.inside in
    let Said : Option Queueing → Inside → InnerEnd → Type 0 = λ before now end.
    Ends (decoding s.config before s.count s.has_phase s.has_ended) (ready_in now.queue) end.leftover end.bits
    end.slips (lost_in now.queue) in
    let said : Said s.queue c.match-self.self-inside c.match-self.result = elim c.match-self.branch as
    (λ _. Said s.queue c.match-self.self-inside c.match-self.result) [
      | in-Some w ↦ (
          let now = w.last-leftover.new.self in
          let h = w.last-leftover.ensures in
          let after : Inside = record s { queue = Some now } in
          let end : ℕ → Option ℕ → InnerEnd = λ bits slips.
          record { bits = bits; slips = slips; leftover = w.last-leftover.result } in
          let slips : (if s.config.follow then Some now.slips else None) ≡ w.reported.result =
          ap (λ (n : ℕ). if s.config.follow then Some n else None) (sym w.slips.ensures) ∙ sym w.reported.ensures in
          subst (λ (v : Inside). Said s.queue v c.match-self.result) (sym w.self-inside-is)
          (subst (Said s.queue after) (sym w.result-is)
          (subst (λ (o : Option Queueing). Said o after (end w.steps.result w.reported.result)) (sym w.in-Some.is)
          (subst (λ (bits : ℕ). Said (Some w.in-Some.queue) after (end bits w.reported.result)) (sym w.steps.ensures)
          (subst (λ (o : Option ℕ). Said (Some w.in-Some.queue) after (end now.t o)) slips
          (ends-queue s.config w.in-Some.queue now s.count w.last-leftover.result s.has_phase s.has_ended
          (subst (IsQueueOf s.config) w.in-Some.is c.self.invariant.0) h.same h.phase h.ends)))))
          )
      | in-None w ↦ (
          let bits = w.saturating_sub.result in
          let end : Option ℕ → InnerEnd = λ slips. record { bits = bits; slips = slips; leftover = 0 } in
          subst (λ (v : Inside). Said s.queue v c.match-self.result) (sym w.self-inside-is)
          (subst (Said s.queue s) (sym w.result-is)
          (subst (λ (o : Option Queueing). Said o (record s { queue = o }) (end w.reported-in-None.result))
          (sym w.in-None.is)
          (subst (λ (o : Option ℕ). Said None (record s { queue = None }) (end o)) (sym w.reported-in-None.ensures)
          (ends-plain s.config s.count bits s.has_phase s.has_ended
          (subst (IsQueueOf s.config) w.in-None.is c.self.invariant.0)
          (λ few. omega (
            arith,
            few,
            w.plain_count.ensures,
            w.saturating_sub.ensures,
            w.skip.ensures.value,
            count-few s.config s.count,
          ))))))
          )
    ] in
    let end = c.match-self.result in
    subst (λ (d : InnerDecoding). Ends d (ready_in c.match-self.self-inside.queue) end.leftover end.bits end.slips
    (lost_in c.match-self.self-inside.queue))
    c.self.view_is said

-- after one block there are none
none-later : (blocks : List WindowBlock) → length blocks ≤ 1 → dropped_of (drop 1 blocks) ≡ 0
none-later [] one = refl
none-later (x ∷ []) one = refl
none-later (x ∷ y ∷ ys) one = absurd (omega (arith, one))

pub returns-clause-windows : goal.returns-clause-windows
returns-clause-windows c =
    let s = c.self.inside in
    let Said : Option Queueing → Inside → Type 0 = λ before now.
    Reads (decoding s.config before s.count s.has_phase s.has_ended)
    (decoding now.config now.queue now.count now.has_phase now.has_ended) in
    let said : Said s.queue c.match-self.self-inside = elim c.match-self.branch as
    (λ _. Said s.queue c.match-self.self-inside) [
      | in-Some w ↦ (
          let now = w.last-leftover.new.self in
          let h = w.last-leftover.ensures in
          let of = subst (IsQueueOf s.config) w.in-Some.is c.self.invariant.0 in
          subst (Said s.queue) (sym w.self-inside-is)
          (subst (λ (o : Option Queueing). Said o (record s { queue = Some now })) (sym w.in-Some.is)
          (reads-queue s.config w.in-Some.queue now s.count s.has_phase s.has_ended of h.same
          (none-later now.ready h.one) (λ given done stood. (h.ends given done stood).lost) h.read))
          )
      | in-None w ↦ (
          subst (Said s.queue) (sym w.self-inside-is)
          (subst (λ (o : Option Queueing). Said s.queue (record s { queue = o })) (sym w.in-None.is)
          (λ given blocks stood. refl))
          )
    ] in
    let now = c.match-self.self-inside in
    subst (λ (d : InnerDecoding). Reads d (decoding now.config now.queue now.count now.has_phase now.has_ended))
    c.self.view_is said

pub returns-clause-read : goal.returns-clause-read
returns-clause-read c =
    let s = c.self.inside in
    let Said : Option Queueing → Inside → Type 0 = λ before now.
    ReadsOctets (decoding s.config before s.count s.has_phase s.has_ended)
    (decoding now.config now.queue now.count now.has_phase now.has_ended) in
    let said : Said s.queue c.match-self.self-inside = elim c.match-self.branch as
    (λ _. Said s.queue c.match-self.self-inside) [
      | in-Some w ↦ subst (Said s.queue) (sym w.self-inside-is)
          (subst (λ (o : Option Queueing). Said o (record s { queue = Some w.last-leftover.new.self })) (sym w.in-Some.is)
          (λ given blocks stood some. w.last-leftover.ensures.read some
          (phase_octets s.config given) blocks stood.decodes))
      | in-None w ↦ subst (Said s.queue) (sym w.self-inside-is)
          (subst (λ (o : Option Queueing). Said s.queue (record s { queue = o })) (sym w.in-None.is)
          (λ given blocks stood. tt))
    ] in
    let now = c.match-self.self-inside in
    subst (λ (d : InnerDecoding). ReadsOctets d (decoding now.config now.queue now.count now.has_phase now.has_ended))
    c.self.view_is said
