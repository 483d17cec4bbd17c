use Rattle.std.proofs.Common.{◌≡◌, ◌⊎◌, ◌<◌, ◌-◌, ◌∙◌, ℕ, nat_lt, if◌then◌else◌, inl, inr, List, [], length, take, drop, false, arith, refl, ap, sym, subst}
use Rattle.std.proofs.lemmas.List.{take_all, take_rest}
use Rattle.std.proofs.Math.Seq.{take-add}
use Rattle.std.specs.Option.{is_some}
use Rattle.std.proofs.lemmas.Bool.Decides.{nat_tests}
use Rattle.tm_base.specs.Handed.{on_handed}
use Rattle.tm_config.specs.Configuration.{Configuration}
use Rattle.tm_inner.specs.InnerDecoding.{HoldsMore, InnerDecoding}
use Rattle.tm_inner.specs.InnerWindows.{AreTold}
use Rattle.tm_inner.specs.Receiving.{Hands}
use Rattle.tm_inner.proofs.DecodedWindows.{decoded-drained}
use Rattle.tm_inner.proofs.GivenPieces.{hands-more}
use Rattle.tm_inner.proofs.Sharing.{shares-more}
use Rattle.tm_channel.specs.OctetReceiving.{MayNotWait, Stages, StagesHand, spare_bits}
use Rattle.tm_channel.specs.declared.bit_receiver.BitReceiver.{BitReceiver}
use Rattle.tm_channel.proofs.FirstStage.{Fills, fills-of}
use Rattle.tm_channel.proofs.GivenOctets.{Filled, filled-decoded, filled-due, filled-more, filled-none, filled-wait}
use Rattle.tm_channel.proofs.WatchedStages.{decoded-plain, decoded-waits, watched-filled, watched-then}
use Rattle.tm_channel.proofs.pipeline.take.Goals as goal

pub loop-done-init : goal.loop-done-init
loop-done-init g c =
    let took = on_handed g.T.ItemWatch.took_phase g.T.ItemWatch.took in
    let inner = c.args.inner.now in
    let octets = c.args.octets.now in
    let e = c.fill-done.ensures in
    let fills = fills-of inner c.fill-done.new.self octets c.fill-done.result
    (record { config = e.config; phase = e.phase.0; stays = e.settled }) e.phase.1 e.coded e.most e.stands in
    let start : Stages = record { inner = inner; bits = c.args.stream.now } in
    record {
      grows = omega arith;
      first = inr (refl, refl, refl);
      within = e.most;
      inner = e.config;
      stream = refl;
      awaits = c.requires.awaits;
      shares = inl e.sharing;
      filled = filled-more took start start c.fill-done.new.self c.args.taker.now c.args.taker.now []
          (take c.fill-done.result octets) (sym c.has_inner_code.ensures ∙ c.if-not-has_inner_code.false) fills
          (filled-none took start c.args.taker.now);
      told = watched-filled g.W.WindowWatch.took inner c.fill-done.new.self c.args.watch.now
          (take c.fill-done.result octets) fills;
    }

pub loop-done-preserved : goal.loop-done-preserved
loop-done-preserved g c =
    let took = on_handed g.T.ItemWatch.took_phase g.T.ItemWatch.took in
    let i = c.loop-done.invariant in
    let done = c.loop-done.done in
    let octets = c.args.octets.now in
    let d = c.take_decoded in
    let f = c.fill-done-in-loop-done in
    let e = f.ensures in
    let start : Stages = record { inner = c.args.inner.now; bits = c.args.stream.now } in
    let before : Stages = record { inner = c.loop-done.inner; bits = c.loop-done.stream } in
    let next : Stages = record { inner = d.new.inner; bits = d.new.stream } in
    let rest : take (length octets - done) (drop done octets) ≡ drop done octets = take_rest octets done in
    let fills = subst (λ (l : List ℕ). Fills d.new.inner f.new.self (take f.result l)) rest
    (fills-of d.new.inner f.new.self (take (length octets - done) (drop done octets)) f.result
    (record { config = e.config; phase = e.phase.0; stays = e.settled }) e.phase.1 e.coded e.most e.stands) in
    let filled = filled-decoded took start before next c.args.taker.now c.loop-done.taker d.new.taker (take done octets)
    i.filled d.ensures.decoded in
    let watched = g.W.WindowWatch.took in
    let all = sym (take-add done f.result octets) in
    record {
      grows = omega (arith, i.grows);
      first = inl (omega (arith, i.grows, c.loop-done-test.true));
      within = omega (arith, e.most, i.within);
      inner = e.config ∙ d.ensures.of.0 ∙ i.inner;
      stream = d.ensures.of.1 ∙ i.stream;
      awaits = d.ensures.awaits;
      shares = inr (e.sharing ∙ shares-more (g.C.Crew.share c.args.crew.now) c.args.inner.now.queue
          c.loop-done.inner.queue d.new.inner.queue i.shares d.ensures.sharing);
      filled = subst (Filled took start (record { inner = f.new.self; bits = d.new.stream }) c.args.taker.now
          d.new.taker) all
          (filled-more took start next f.new.self c.args.taker.now d.new.taker (take done octets)
          (take f.result (drop done octets)) (sym c.has_inner_code.ensures ∙ c.if-not-has_inner_code.false) fills
          filled);
      told = λ going.
          subst (Hands watched AreTold c.args.inner.now f.new.self c.args.watch.now d.new.watch) all
          (hands-more watched AreTold c.args.inner.now d.new.inner f.new.self c.args.watch.now d.new.watch d.new.watch
          (take done octets) (take f.result (drop done octets))
          (watched-then watched c.args.inner.now c.loop-done.inner d.new.inner c.args.watch.now c.loop-done.watch
          d.new.watch (take done octets) (i.told going) d.ensures.watched)
          (watched-filled watched d.new.inner f.new.self d.new.watch (take f.result (drop done octets)) fills
          (filled.ended ∙ going)));
    }

pub returns-then-may_wait-clause-handed : goal.returns-then-may_wait-clause-handed
returns-then-may_wait-clause-handed g c =
    let took = on_handed g.T.ItemWatch.took_phase g.T.ItemWatch.took in
    let start : Stages = record { inner = c.args.inner.now; bits = c.args.stream.now } in
    let now : Stages = record { inner = c.loop-done.inner; bits = c.loop-done.stream } in
    subst (StagesHand took start now c.args.taker.now c.loop-done.taker)
    (take_all c.loop-done.done c.args.octets.now c.loop-done-test.false)
    (filled-wait took start now c.args.taker.now c.loop-done.taker (take c.loop-done.done c.args.octets.now)
    c.spare.result c.loop-done.invariant.filled c.spare.ensures.value c.spare.ensures.most
    (c.may_wait.ensures.waits c.if-may_wait.true))

-- nothing was decoded, or not all octets were put in at first
pub returns-then-may_wait-clause-waits : goal.returns-then-may_wait-clause-waits
returns-then-may_wait-clause-waits g c = λ _.
    let f = c.fill-done in
    elim c.loop-done.invariant.first as (λ _. ((c.loop-done.stream ≡ c.args.stream.now)
    × (c.loop-done.taker ≡ c.args.taker.now)) ⊎ MayNotWait c.args.inner.now c.args.octets.now
    (if nat_lt 1 (g.C.Crew.share c.args.crew.now 2) then spare_bits c.args.stream.now else 0)) [
      | inl less ↦ inr (f.new.self, f.result, f.ensures.stands, f.ensures.all, inl less)
      | inr same ↦ inl (same.1, same.2)
    ]

pub returns-clause-waits : goal.returns-clause-waits
returns-clause-waits g c = λ _.
    let f = c.fill-done in
    let spare : ℕ = if nat_lt 1 (g.C.Crew.share c.args.crew.now 2) then spare_bits c.args.stream.now else 0 in
    let more = c.may_wait.ensures.lets c.if-may_wait.false in
    inr (
      f.new.self,
      f.result,
      f.ensures.stands,
      f.ensures.all,
      elim c.loop-done.invariant.first as
          (λ _. (f.result < length c.args.octets.now) ⊎ HoldsMore f.new.self.queue spare) [
            | inl less ↦ inl less
            | inr same ↦ inr (subst (λ (d : InnerDecoding). HoldsMore d.queue spare) same.0
                (subst (HoldsMore c.loop-done.inner.queue) (c.spare.ensures.exact
                ∙ ap (λ (r : BitReceiver). if nat_lt 1 (g.C.Crew.share c.args.crew.now 2) then spare_bits r else 0)
                same.1) more))
          ],
    )

pub returns-clause-handed : goal.returns-clause-handed
returns-clause-handed g c =
    let took = on_handed g.T.ItemWatch.took_phase g.T.ItemWatch.took in
    let d = c.take_decoded-2 in
    let start : Stages = record { inner = c.args.inner.now; bits = c.args.stream.now } in
    let before : Stages = record { inner = c.loop-done.inner; bits = c.loop-done.stream } in
    let next : Stages = record { inner = d.new.inner; bits = d.new.stream } in
    subst (StagesHand took start next c.args.taker.now d.new.taker)
    (take_all c.loop-done.done c.args.octets.now c.loop-done-test.false)
    (filled-due took start before next c.args.taker.now c.loop-done.taker d.new.taker
    (take c.loop-done.done c.args.octets.now) c.loop-done.invariant.filled d.ensures.decoded d.ensures.drained)

-- ---- what the watch was told

pub returns-then-may_wait-clause-watched : goal.returns-then-may_wait-clause-watched
returns-then-may_wait-clause-watched g c = λ going.
    subst (Hands g.W.WindowWatch.took AreTold c.args.inner.now c.loop-done.inner c.args.watch.now c.loop-done.watch)
    (take_all c.loop-done.done c.args.octets.now c.loop-done-test.false) (c.loop-done.invariant.told going)

pub returns-clause-watched : goal.returns-clause-watched
returns-clause-watched g c = λ going.
    let d = c.take_decoded-2 in
    let done = c.loop-done.done in
    subst (Hands g.W.WindowWatch.took AreTold c.args.inner.now d.new.inner c.args.watch.now d.new.watch)
    (take_all done c.args.octets.now c.loop-done-test.false)
    (watched-then g.W.WindowWatch.took c.args.inner.now c.loop-done.inner d.new.inner c.args.watch.now
    c.loop-done.watch d.new.watch (take done c.args.octets.now) (c.loop-done.invariant.told going)
    c.take_decoded-2.ensures.watched)

-- ---- all that is due was decoded

pub returns-then-not-has_inner_code-clause-all : goal.returns-then-not-has_inner_code-clause-all
returns-then-not-has_inner_code-clause-all g c = λ alone.
    decoded-plain c.take_plain.new.inner
    (ap (λ (k : Configuration). is_some k.inner) c.take_plain.ensures.inner
    ∙ sym c.has_inner_code.ensures ∙ c.if-not-has_inner_code.true)

pub returns-then-may_wait-clause-all : goal.returns-then-may_wait-clause-all
returns-then-may_wait-clause-all g c = λ alone.
    let share : ℕ = g.C.Crew.share c.args.crew.now 2 in
    let one : nat_lt 1 share ≡ false = grind (arith, nat_tests) in
    decoded-waits c.loop-done.inner c.spare.result
    (omega (
      arith,
      c.requires.accepted.some_keep,
      ap (λ (k : Configuration). k.keep) c.loop-done.invariant.inner,
    ))
    (c.spare.ensures.exact ∙ ap (λ b. if b then spare_bits c.loop-done.stream else 0) one)
    (c.may_wait.ensures.waits c.if-may_wait.true)

pub returns-clause-all : goal.returns-clause-all
returns-clause-all g c = λ alone.
    decoded-drained c.take_decoded-2.new.inner c.take_decoded-2.ensures.drained

-- ---- by how many workers windows were decoded

pub returns-clause-shares : goal.returns-clause-shares
returns-clause-shares g c =
    inr (shares-more (g.C.Crew.share c.args.crew.now) c.args.inner.now.queue c.loop-done.inner.queue
    c.take_decoded-2.new.inner.queue c.loop-done.invariant.shares c.take_decoded-2.ensures.sharing)
