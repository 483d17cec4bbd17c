use Rattle.std.proofs.Common.{◌≡◌, [], map, sym, subst}
use Rattle.tm_base.specs.Handed.{Item}
use Rattle.tm_base.specs.Takers.{HandedOver}
use Rattle.tm_inner.specs.Handing.{IsKept}
use Rattle.tm_inner.specs.InnerDecoding.{InnerDecoding, ready_in, unread}
use Rattle.tm_inner.specs.InnerWindows.{AreThere, AreTold, windows_in}
use Rattle.tm_inner.specs.Receiving.{HasRead, Hands}
use Rattle.tm_inner.proofs.DecodedWindows.{told-next_run}
use Rattle.tm_inner.proofs.DecoderPieces.{hands-run, phase-left}
use Rattle.tm_inner.proofs.DecoderReads.{after_read}
use Rattle.tm_inner.proofs.ReadOctets.{run-keeps}
use Rattle.tm_inner.proofs.watch.watch_run.Goals as goal

pub watch_ready-requires : goal.watch_ready-requires
watch_ready-requires g c = record {
  there = subst (λ (k : InnerDecoding). AreThere k.queue) (sym c.watch_phase.ensures.read)
      c.decode-count.ensures.there;
}

pub returns-clause-read : goal.returns-clause-read
returns-clause-read g c =
    let told = g.W.WindowWatch.told in
    let d = c.decode-count in
    let p = c.watch_phase in
    let was = c.args.watch.now in
    let now = c.watch_ready.new.watch in
    subst (λ (k : InnerDecoding). Hands told HasRead c.args.inner.now k was now [])
    (sym {b = after_read d.new.self} p.ensures.read)
    (hands-run told c.args.inner.now d.new.self was p.new.watch now (ready_in d.new.self.queue)
    (record { config = d.ensures.config; phase = d.ensures.phase.0; stays = d.ensures.settled }) d.ensures.stands
    p.ensures.told (subst (λ (k : InnerDecoding). HandedOver told p.new.watch (map Item (ready_in k.queue)) now)
    p.ensures.read c.watch_ready.ensures.blocks))

pub returns-clause-watched : goal.returns-clause-watched
returns-clause-watched g c = λ leaves.
    let took = g.W.WindowWatch.took in
    let d = c.decode-count in
    let e = d.ensures in
    let p = c.watch_phase in
    let was = c.args.watch.now in
    let now = c.watch_ready.new.watch in
    let same : p.new.watch ≡ was =
    phase-left g.W.WindowWatch.told leaves was p.new.watch (unread d.new.self) p.ensures.told in
    subst (λ (k : InnerDecoding). Hands took AreTold c.args.inner.now k was now [])
    (sym {b = after_read d.new.self} p.ensures.read)
    (told-next_run took c.args.inner.now d.new.self was now e.config e.settled
    (λ given blocks stood. (e.stands given blocks stood).0) e.windows
    (subst (λ (k : InnerDecoding). HandedOver took was (windows_in k) now) p.ensures.read
    (subst (λ w. HandedOver took w (windows_in c.watch_phase.new.inner) now) same c.watch_ready.ensures.windows)))

pub returns-clause-chosen : goal.returns-clause-chosen
returns-clause-chosen g c = λ given done r.
    let d = c.decode-count in
    let kept = run-keeps c.args.inner.now d.new.self (ready_in d.new.self.queue) d.ensures.phase.1 d.ensures.stands
    given done r in
    subst (λ (k : InnerDecoding). IsKept k given) (sym {b = after_read d.new.self} c.watch_phase.ensures.read)
    (record { so_far = kept.so_far; at_end = kept.at_end })
