use Rattle.std.proofs.Common.{◌≡◌, ◌+◌, ◌-◌, ◌^◌, ◌++◌, ◌∙◌, ℕ, Bool, List, length, drop, min, take, ap, arith, sym, subst, Option, Some, length-drop}
use Rattle.std.proofs.lemmas.List.{take_rest}
use Rattle.tm_base.specs.SoftForm.{from_form}
use Rattle.tm_config.specs.Configuration.{is_signed}
use Rattle.tm_viterbi.specs.WindowBlock.{WindowBlock}
use Rattle.tm_windows.specs.Queue.{Queueing, QueueStandsFor}
use Rattle.tm_inner.specs.InnerDecoding.{GoesWith, InnerDecoding, IsQueueOf}
use Rattle.tm_inner.specs.Phase.{skipped_at}
use Rattle.tm_inner.specs.declared.decoder.InnerDecoder.TheInside.{Inside}
use Rattle.tm_inner.proofs.Decoders.{decoding}
use Rattle.tm_inner.proofs.DecoderCalls.{Takes, takes-plain, takes-queue}
use Rattle.tm_inner.proofs.decoder.InnerDecoder.fill.Goals as goal
use Rattle.tm_inner.proofs.decoder.InnerDecoder.fill.Goals.{in-Some, in-None}

pub returns-clause-stands : goal.returns-clause-stands
returns-clause-stands c =
    let s = c.self.inside in
    let octets = c.args.octets.now in
    let n = c.saturating_add-self-inside-2.result in
    let Said : Option Queueing → Inside → ℕ → Type 0 = λ before now taken.
    Takes (decoding s.config before s.count s.has_phase s.has_ended)
    (decoding now.config now.queue n now.has_phase now.has_ended) taken octets in
    let said : Said s.queue c.match-self.self-inside c.match-self.taken = elim c.match-self.branch as
    (λ _. Said s.queue c.match-self.self-inside c.match-self.taken) [
      | in-Some w ↦ (
          let q = w.in-Some.queue in
          let now = w.fill.new.self in
          let skipped = c.octets_to_skip-skipped.result in
          let more = w.fill.result in
          let h = w.fill.ensures in
          let rest = take_rest octets skipped in
          let of = subst (IsQueueOf s.config) w.in-Some.is c.self.invariant.0 in
          let goes = subst (λ (o : Option Queueing). GoesWith o s.count s.has_ended) w.in-Some.is c.self.invariant.1 in
          let signed : w.is_signed.result ≡ is_signed s.config.soft = w.is_signed.ensures in
          let skip = subst (λ (d : InnerDecoding). skipped ≡ min (skipped_at d.config.inner d.config - d.count)
          (length octets)) (sym c.self.view_is) c.octets_to_skip-skipped.ensures in
          let counted : n ≡ min (s.count + (skipped + more)) (2 ^ 64 - 1) = c.saturating_add-self-inside-2.ensures
          ∙ ap (λ (v : Inside). min (v.count + c.match-self.taken) (2 ^ 64 - 1)) w.self-inside-is
          ∙ ap (λ (k : ℕ). min (s.count + k) (2 ^ 64 - 1)) w.taken-is in
          let Stood : Bool → List ℕ → Type 0 = λ b l. (given : List ℕ) (done : List WindowBlock)
          → QueueStandsFor q given done → QueueStandsFor now (given ++ from_form b (take more l)) done in
          let stood = subst (λ (b : Bool). Stood b (drop skipped octets)) signed
          (subst (Stood w.is_signed.result) rest h.stands) in
          subst (λ (v : Inside). Said s.queue v c.match-self.taken) (sym w.self-inside-is)
          (subst (Said s.queue (record s { queue = Some now })) (sym w.taken-is)
          (subst (λ (o : Option Queueing). Said o (record s { queue = Some now }) (skipped + more)) (sym w.in-Some.is)
          (takes-queue s.config q now s.count n skipped more s.has_phase s.has_ended octets of h.same goes.0 h.ended skip
          counted (omega (arith, h.count, ap length rest, length-drop skipped octets)) stood)))
          )
      | in-None w ↦ (
          let counted : n ≡ min (s.count + length octets) (2 ^ 64 - 1) = c.saturating_add-self-inside-2.ensures
          ∙ ap (λ (v : Inside). min (v.count + c.match-self.taken) (2 ^ 64 - 1)) w.self-inside-is
          ∙ ap (λ (k : ℕ). min (s.count + k) (2 ^ 64 - 1)) w.taken-is in
          subst (λ (v : Inside). Said s.queue v c.match-self.taken) (sym w.self-inside-is)
          (subst (Said s.queue s) (sym w.taken-is)
          (subst (λ (o : Option Queueing). Said o (record s { queue = o }) (length octets)) (sym w.in-None.is)
          (takes-plain s.config s.count n s.has_phase s.has_ended octets
          (subst (IsQueueOf s.config) w.in-None.is c.self.invariant.0) counted)))
          )
    ] in
    let now = c.match-self.self-inside in
    let all = subst (λ (d : InnerDecoding). Takes d (decoding now.config now.queue n now.has_phase now.has_ended)
    c.match-self.taken octets) c.self.view_is said in
    λ given blocks going few stood. all given blocks few stood
