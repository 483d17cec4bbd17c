use Rattle.std.proofs.Common.{rules, ◌≡◌, ◌≤◌, length, arith}
use Rattle.tm_inner.specs.Handing.{ReadsDue}
use Rattle.tm_inner.specs.InnerWindows.{AreTold}
use Rattle.tm_inner.specs.Receiving.{Hands}
use Rattle.tm_buffers.specs.Decoding.{bits_at, keeps_handed}
use Rattle.tm_buffers.proofs.KeptBits.{kept-long, watched-windows, written-bits}
use Rattle.tm_buffers.proofs.buffer_decoder.decode_due.Goals as goal

pub returns-clause-within : goal.returns-clause-within
returns-clause-within g c =
    let r = c.watch_due.ensures.read.read in
    let b = c.watch_due.new.watch in
    let w = written-bits r.more _ b r.handed in
    let loan : b.bits.ghost_name ≡ _ = w.0 in
    let long : length b.bits.now ≡ length c.args.bits.now = kept-long c.args.bits.now b.bits.now b.count r.more w.1 in
    let within : b.count ≤ length c.args.bits.now = omega (arith, b.within, long) in
    search rules

pub returns-clause-read : goal.returns-clause-read
returns-clause-read g c =
    let r = c.watch_due.ensures.read in
    let b = c.watch_due.new.watch in
    let w = written-bits r.read.more _ b r.read.handed in
    let loan : b.bits.ghost_name ≡ _ = w.0 in
    let read : ReadsDue keeps_handed c.args.inner.now c.watch_due.new.inner (bits_at 0 c.args.bits.now)
    (bits_at b.count b.bits.now) c.args.octets.now = record {
      config = r.config;
      ended = r.ended;
      still = r.still;
      drained = r.drained;
      all = r.all;
      read = record { more = r.read.more; handed = w.1; stands = r.read.stands };
      kept = r.kept;
    } in
    search rules

pub returns-clause-watched : goal.returns-clause-watched
returns-clause-watched g c =
    let took = g.W.WindowWatch.took in
    let h = c.watch_due.ensures.watched (λ before now skip cost same. same) in
    let b = c.watch_due.new.watch in
    let w = watched-windows took h.more _ b h.handed in
    let loan : b.watch.ghost_name ≡ _ = w.0 in
    let hands : Hands took AreTold c.args.inner.now c.watch_due.new.inner c.args.watch.now b.watch.now c.args.octets.now =
    record { more = h.more; handed = w.1; stands = h.stands } in
    search rules
