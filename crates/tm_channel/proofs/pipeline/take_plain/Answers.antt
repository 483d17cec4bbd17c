use Rattle.std.proofs.Common.{◌≡◌, inl, inr, ◌+◌, ◌-◌, ◌∙◌, ℕ, List, take, drop, arith, refl, ap, subst}
use Rattle.std.specs.Option.{is_some}
use Rattle.std.proofs.lemmas.List.{take_all}
use Rattle.tm_base.specs.Handed.{on_handed}
use Rattle.tm_base.proofs.Pieces.{piece-joined}
use Rattle.tm_config.specs.Configuration.{Configuration}
use Rattle.tm_inner.specs.Inner.{plain_bits, plain_count}
use Rattle.tm_inner.specs.InnerWindows.{AreTold}
use Rattle.tm_inner.specs.Receiving.{Hands}
use Rattle.tm_inner.proofs.GivenPieces.{hands-more, hands-none}
use Rattle.tm_inner.proofs.Sharing.{shares-kept, shares-more}
use Rattle.tm_channel.specs.OctetReceiving.{ReceivedAt, Stages, StagesHand}
use Rattle.tm_channel.proofs.FirstStage.{plain-fills}
use Rattle.tm_channel.proofs.GivenOctets.{Filled, filled-none, filled-plain, found_in, plain-due}
use Rattle.tm_channel.proofs.WatchedStages.{watched-filled, watched-then}
use Rattle.tm_channel.proofs.pipeline.take_plain.Goals as goal

pub loop-done-init : goal.loop-done-init
loop-done-init g c = record {
  within = omega arith;
  inner = refl;
  stream = refl;
  awaits = c.requires.awaits;
  filled =
      filled-none (on_handed g.T.ItemWatch.took_phase g.T.ItemWatch.took)
      (record { inner = c.args.inner.now; bits = c.args.stream.now }) c.args.taker.now;
  shares = inl refl;
  told = λ going. hands-none g.W.WindowWatch.took AreTold c.args.inner.now c.args.watch.now;
}

pub take_after-requires-clause-plain : goal.take_after-requires-clause-plain
take_after-requires-clause-plain g c =
    ap (λ (k : Configuration). is_some k.inner)
    (c.take_decoded.ensures.of.1 ∙ c.loop-done.invariant.stream ∙ c.requires.of) ∙ c.requires.plain

-- the bits that are given to the second stage are those of the piece
same_found : (c was now : Configuration) (count skip : ℕ) (octets : List ℕ) → skip ≡ was.skip - plain_count was count
    → was ≡ c → now ≡ c → drop skip (plain_bits now octets) ≡ found_in c count octets
same_found c was now count skip octets is before after =
    ap (λ (n : ℕ). drop n (plain_bits now octets)) (is ∙ ap (λ (k : Configuration). k.skip - plain_count k count) before)
    ∙ ap (λ (k : Configuration). drop (c.skip - plain_count c count) (plain_bits k octets)) after

pub loop-done-preserved : goal.loop-done-preserved
loop-done-preserved g c =
    let t = g.T.ItemWatch in
    let i = c.loop-done.invariant in
    let at = c.loop-done.done in
    let octets = c.args.octets.now in
    let piece = take ((at + c.min.result) - at) (drop at octets) in
    let joined = piece-joined at c.min.result octets in
    let start : Stages = record { inner = c.args.inner.now; bits = c.args.stream.now } in
    let before : Stages = record { inner = c.loop-done.inner; bits = c.loop-done.stream } in
    let filled = c.fill.new.self in
    let e = c.fill.ensures in
    let d = c.take_decoded in
    let now = c.take_after.new in
    let watched = g.W.WindowWatch.took in
    let same = d.ensures.of.0 ∙ e.config ∙ i.inner in
    let fills = plain-fills before.inner filled piece c.fill.result
    (ap (λ (k : Configuration). is_some k.inner) i.inner ∙ c.requires.plain)
    (record { config = e.config; phase = e.phase.0; stays = e.settled }) e.phase.1 e.most e.all e.stands in
    record {
      within = omega (arith, c.min.ensures, c.loop-done-test.true);
      inner = same;
      stream = c.take_after.ensures.handed.config ∙ d.ensures.of.1 ∙ i.stream;
      awaits = c.take_after.ensures.awaits;
      filled =
          subst (Filled (on_handed t.took_phase t.took) start (record { inner = d.new.inner; bits = now.stream })
          c.args.taker.now now.taker) joined
          (filled-plain t.took_phase t.took start before filled (record { inner = d.new.inner; bits = d.new.stream })
          now.stream c.args.taker.now c.loop-done.taker d.new.taker now.taker (take at octets) piece c.requires.plain
          i.filled fills d.ensures.decoded
          (subst (ReceivedAt t.took d.new.stream now.stream d.new.taker now.taker)
          (same_found start.inner.config before.inner.config d.new.inner.config before.inner.count
          c.bits_to_skip-skip.result piece c.bits_to_skip-skip.ensures i.inner same) c.take_after.ensures.handed));
      shares = inr (shares-more (g.C.Crew.share c.args.crew.now) c.args.inner.now.queue filled.queue
          d.new.inner.queue (shares-kept (g.C.Crew.share c.args.crew.now) c.args.inner.now.queue before.inner.queue
          filled.queue i.shares e.sharing) d.ensures.sharing);
      told = λ going.
          subst (Hands watched AreTold c.args.inner.now d.new.inner c.args.watch.now d.new.watch) joined
          (hands-more watched AreTold c.args.inner.now before.inner d.new.inner c.args.watch.now c.loop-done.watch
          d.new.watch (take at octets) piece (i.told going)
          (watched-then watched before.inner filled d.new.inner c.loop-done.watch c.loop-done.watch d.new.watch piece
          (watched-filled watched before.inner filled c.loop-done.watch piece fills (i.filled.ended ∙ going))
          d.ensures.watched));
    }

pub returns-clause-handed : goal.returns-clause-handed
returns-clause-handed g c =
    let took = on_handed g.T.ItemWatch.took_phase g.T.ItemWatch.took in
    let start : Stages = record { inner = c.args.inner.now; bits = c.args.stream.now } in
    let now : Stages = record { inner = c.loop-done.inner; bits = c.loop-done.stream } in
    subst (StagesHand took start now c.args.taker.now c.loop-done.taker)
    (take_all c.loop-done.done c.args.octets.now c.loop-done-test.false)
    (plain-due took start now c.args.taker.now c.loop-done.taker (take c.loop-done.done c.args.octets.now)
    c.requires.plain c.loop-done.invariant.filled)

pub returns-clause-watched : goal.returns-clause-watched
returns-clause-watched g c = λ going.
    subst (Hands g.W.WindowWatch.took AreTold c.args.inner.now c.loop-done.inner c.args.watch.now c.loop-done.watch)
    (take_all c.loop-done.done c.args.octets.now c.loop-done-test.false) (c.loop-done.invariant.told going)
