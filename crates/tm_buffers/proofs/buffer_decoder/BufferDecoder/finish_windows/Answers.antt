use Rattle.std.proofs.Common.{rules, ◌≡◌, Some, ap, arith, length, subst, sym, true}
use Rattle.tm_config.specs.Configuration.{Configuration}
use Rattle.tm_inner.specs.InnerDecoding.{InnerDecoding}
use Rattle.tm_inner.specs.InnerWindows.{AreLastWindows}
use Rattle.tm_buffers.specs.Buffer.{has_room}
use Rattle.tm_buffers.specs.Decoding.{DecodesLast, IsDecoding, bits_room}
use Rattle.tm_buffers.specs.Windows.{HasWrittenWindows, windows_room}
use Rattle.tm_buffers.proofs.DecodedCalls.{bits-ended}
use Rattle.tm_inner.proofs.DecodedWindows.{handed-decoded, told-rest}
use Rattle.tm_buffers.proofs.FewWindows.{last-most}
use Rattle.tm_buffers.proofs.Needed.{needed}
use Rattle.tm_buffers.proofs.WrittenWindows.{all-written, gathered}
use Rattle.tm_buffers.proofs.buffer_decoder.BufferDecoder.finish_windows.Goals as goal

pub returns-clause-decoded : goal.returns-clause-decoded
returns-clause-decoded c = λ given done is room room_windows.
    let d = c.self.inside.inner in
    let bits = c.args.bits.now in
    let array = c.args.windows.now in
    let back = sym c.self.view_is in
    let at = subst (λ (k : InnerDecoding). IsDecoding k given done) back is in
    let rooms = subst (λ (k : InnerDecoding). (has_room (bits_room k.config 0) (length bits) ≡ true)
    × (has_room (windows_room k.config 0) (length array) ≡ true)) back (room, room_windows) in
    let t = c.end-count in
    let now = t.new.inner in
    let h = t.ensures.watched in
    let watch = t.new.watch in
    let decoded = bits-ended d now given done t.result bits t.new.bits t.ensures.within t.ensures.writes at rooms.0 in
    let are = told-rest d given at.stands.read.blocks h.0 at.stands.read.stands (handed-decoded d given done at.stands)
    (λ before told. h.2 given before told) in
    let got = gathered _ array _ watch h.0 c.over-watch.ensures h.1 in
    let loan : watch.windows.ghost_name ≡ _ = got.loan in
    let few = last-most d.config given h.0 0 (omega (
      arith,
      ap (λ (k : Configuration). k.keep) c.self.invariant.0,
      c.windows_room-most.ensures.accepted.some_keep,
    )) are (omega arith) in
    let full = all-written _ array h.0 watch got (omega (arith, few, needed _ true (length array) rooms.1)) in
    let written = subst (HasWrittenWindows h.0 array watch.windows.now) full got.written in
    let known = subst (λ (k : InnerDecoding). DecodesLast k now given done (Some t.result) t.new.bits
    × AreLastWindows k.config given h.0) c.self.view_is (decoded, are) in (
      search rules,
      record { windows = h.0; are = known.1; written = search rules; counts = search rules },
    )
