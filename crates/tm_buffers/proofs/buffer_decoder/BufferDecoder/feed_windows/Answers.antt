use Rattle.std.proofs.Common.{rules, ◌≡◌, ◌^◌, ◌++◌, nat_le, ap, arith, length, subst, sym, true}
use Rattle.tm_config.specs.Configuration.{Configuration}
use Rattle.tm_inner.specs.InnerDecoding.{InnerDecoding}
use Rattle.tm_inner.specs.InnerWindows.{AreFurtherWindows}
use Rattle.tm_buffers.specs.Buffer.{has_room}
use Rattle.tm_buffers.specs.Decoding.{IsDecoding, bits_room}
use Rattle.tm_buffers.specs.Windows.{HasWrittenWindows, windows_room}
use Rattle.tm_buffers.proofs.DecodedCalls.{bits-decoded}
use Rattle.tm_inner.proofs.DecodedWindows.{handed-decoded, told-further}
use Rattle.tm_buffers.proofs.FewWindows.{further-most}
use Rattle.tm_buffers.proofs.Needed.{needed}
use Rattle.tm_buffers.proofs.WrittenWindows.{all-written, gathered}
use Rattle.tm_buffers.proofs.buffer_decoder.BufferDecoder.feed_windows.Goals as goal

pub returns-clause-decoded : goal.returns-clause-decoded
returns-clause-decoded c = λ given done few is room room_windows.
    let d = c.self.inside.inner in
    let octets = c.args.octets.now in
    let bits = c.args.bits.now in
    let array = c.args.windows.now in
    let back = sym c.self.view_is in
    let at = subst (λ (k : InnerDecoding). IsDecoding k given done) back is in
    let rooms = subst (λ (k : InnerDecoding). (has_room (bits_room k.config (length octets)) (length bits) ≡ true)
    × (has_room (windows_room k.config (length octets)) (length array) ≡ true)) back (room, room_windows) in
    let t = c.decode_due-count in
    let now = t.new.inner in
    let h = t.ensures.watched in
    let watch = t.new.watch in
    let decoded = bits-decoded d now given octets done t.result bits t.new.bits t.ensures.within t.ensures.read few at
    rooms.0 in
    let are = told-further _ d now _ watch given octets at.stands.read.blocks h t.ensures.read.config few
    at.stands.read.stands (handed-decoded d given done at.stands)
    (handed-decoded now (given ++ octets) (done ++ decoded.more) decoded.decoding.stands) in
    let got = gathered _ array _ watch h.more c.over-watch.ensures h.handed in
    let loan : watch.windows.ghost_name ≡ _ = got.loan in
    let most = further-most d.config given octets h.more (length octets) (omega (
      arith,
      ap (λ (k : Configuration). k.keep) c.self.invariant.0,
      c.windows_room-most.ensures.accepted.some_keep,
    )) are
    (omega arith) in
    let full = all-written _ array h.more watch got
    (omega (arith, most, needed _ (nat_le (length octets) (2 ^ 40)) (length array) rooms.1)) in
    let written = subst (HasWrittenWindows h.more array watch.windows.now) full got.written in (
      search rules,
      record {
        windows = h.more;
        are = subst (λ (k : InnerDecoding). AreFurtherWindows k.config given octets h.more) c.self.view_is are;
        written = search rules;
        counts = search rules;
      },
    )
