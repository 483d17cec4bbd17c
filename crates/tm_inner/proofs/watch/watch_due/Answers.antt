use Rattle.std.proofs.Common.{◌∙◌, ◌<◌, length, take, arith, subst}
use Rattle.std.proofs.lemmas.List.{take_all}
use Rattle.tm_inner.specs.InnerWindows.{AreTold}
use Rattle.tm_inner.specs.Receiving.{Hands}
use Rattle.tm_inner.proofs.DecodedWindows.{told-slice}
use Rattle.tm_inner.proofs.GivenPieces.{hands-none, hands-then}
use Rattle.tm_inner.proofs.ReadOctets.{Filled, reads-due, reads-filled, reads-none, reads-run}
use Rattle.tm_inner.proofs.watch.watch_due.Goals as goal

pub runs-init : goal.runs-init
runs-init g c = record {
  reads = reads-none g.W.WindowWatch.told c.args.inner.now c.args.watch.now c.args.octets.now;
  watched = λ _. hands-none g.W.WindowWatch.took AreTold c.args.inner.now c.args.watch.now;
}

pub runs-preserved-then-count-gt0 : goal.runs-preserved-then-count-gt0
runs-preserved-then-count-gt0 g c =
    let l = c.runs in
    let r = c.watch_run-count in
    let was = c.args.inner.now in
    let start = c.args.watch.now in
    let octets = c.args.octets.now in record {
      reads = reads-run g.W.WindowWatch.told was l.inner start l.watch octets l.done l.invariant.reads r.new.inner
          r.new.watch r.ensures.same r.ensures.read;
      watched = λ leaves. hands-then g.W.WindowWatch.took AreTold was l.inner r.new.inner start l.watch r.new.watch
          (take l.done octets) (l.invariant.watched leaves) (r.ensures.watched leaves);
    }

pub runs-preserved : goal.runs-preserved
runs-preserved g c =
    let l = c.runs in
    let r = c.watch_run-count in
    let f = c.fill-done in
    let was = c.args.inner.now in
    let start = c.args.watch.now in
    let octets = c.args.octets.now in
    let some : l.done < length octets = omega (arith, l.invariant.reads.within, c.if-done-octets.false) in
    let read = reads-run g.W.WindowWatch.told was l.inner start l.watch octets l.done l.invariant.reads r.new.inner
    r.new.watch r.ensures.same r.ensures.read in
    let filled : Filled r.new.inner f.new.self f.result _ = record {
      later = record { config = f.ensures.config; phase = f.ensures.phase.0; stays = f.ensures.settled };
      ended = f.ensures.phase.1;
      most = f.ensures.most;
      stands = f.ensures.stands;
    } in record {
      reads = reads-filled g.W.WindowWatch.told was r.new.inner start r.new.watch octets l.done read f.new.self f.result
          c.requires some filled;
      watched = λ leaves. told-slice g.W.WindowWatch.took was r.new.inner f.new.self start r.new.watch octets l.done
          f.result (read.ended ∙ c.requires (omega (arith, some))) filled
          (hands-then g.W.WindowWatch.took AreTold was l.inner r.new.inner start l.watch r.new.watch
          (take l.done octets) (l.invariant.watched leaves) (r.ensures.watched leaves));
    }

pub returns-then-done-octets-clause-read : goal.returns-then-done-octets-clause-read
returns-then-done-octets-clause-read g c =
    let l = c.runs in
    let r = c.watch_run-count in
    reads-due g.W.WindowWatch.told c.args.inner.now l.inner c.args.watch.now l.watch c.args.octets.now l.done
    l.invariant.reads r.new.inner r.new.watch (omega (arith, c.if-done-octets.true)) r.ensures.same r.ensures.read
    (r.ensures.drained.0 (omega (arith, c.if-count-gt0.false))) r.ensures.drained.1 r.ensures.chosen

pub returns-then-done-octets-clause-watched : goal.returns-then-done-octets-clause-watched
returns-then-done-octets-clause-watched g c = λ leaves.
    let l = c.runs in
    let r = c.watch_run-count in
    let took = g.W.WindowWatch.took in
    let was = c.args.inner.now in
    let start = c.args.watch.now in
    subst (Hands took AreTold was r.new.inner start r.new.watch)
    (take_all l.done c.args.octets.now (omega (arith, c.if-done-octets.true)))
    (hands-then took AreTold was l.inner r.new.inner start l.watch r.new.watch (take l.done c.args.octets.now)
    (l.invariant.watched leaves) (r.ensures.watched leaves))
