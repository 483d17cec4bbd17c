use Rattle.std.proofs.Common.{rules, ◌≡◌, ◌≤◌, ◌++◌, ℕ, List, length, arith}
use Rattle.tm_base.specs.Takers.{HandedOver}
use Rattle.tm_inner.specs.InnerWindows.{AreTold, AreWindows}
use Rattle.tm_inner.specs.declared.window.Window.{Window}
use Rattle.tm_buffers.specs.Decoding.{WritesLastBits}
use Rattle.tm_buffers.proofs.KeptBits.{kept-long, watched-windows, written-bits}
use Rattle.tm_buffers.proofs.buffer_decoder.end.Goals as goal

pub returns-clause-within : goal.returns-clause-within
returns-clause-within g c =
    let r = c.watch_last.ensures.read in
    let b = c.watch_last.new.watch in
    let w = written-bits r.last _ b r.handed in
    let loan : b.bits.ghost_name ≡ _ = w.0 in
    let long : length b.bits.now ≡ length c.args.bits.now = kept-long c.args.bits.now b.bits.now b.count r.last w.1 in
    let within : b.count ≤ length c.args.bits.now = omega (arith, b.within, long) in
    search rules

pub returns-clause-writes : goal.returns-clause-writes
returns-clause-writes g c =
    let r = c.watch_last.ensures.read in
    let b = c.watch_last.new.watch in
    let w = written-bits r.last _ b r.handed in
    let loan : b.bits.ghost_name ≡ _ = w.0 in
    let writes : WritesLastBits c.args.inner.now c.watch_last.new.inner c.args.bits.now b.count b.bits.now = record {
      last = r.last;
      left = c.watch_last.result.leftover;
      written = w.1;
      all = λ given done stood. ((r.all given done stood).0, r.chosen given done stood);
    } in
    search rules

pub returns-clause-watched : goal.returns-clause-watched
returns-clause-watched g c =
    let took = g.W.WindowWatch.took in
    let h = c.watch_last.ensures.watched (λ before now skip cost same. same) in
    let b = c.watch_last.new.watch in
    let w = watched-windows took h.0 _ b h.1 in
    let loan : b.watch.ghost_name ≡ _ = w.0 in
    let watched : (last : List Window) × HandedOver took c.args.watch.now last b.watch.now
    × ((given : List ℕ) (done : List Window) → AreTold c.args.inner.now given done
    → AreWindows c.args.inner.now.config given (done ++ last)) = (h.0, w.1, h.2) in
    search rules
