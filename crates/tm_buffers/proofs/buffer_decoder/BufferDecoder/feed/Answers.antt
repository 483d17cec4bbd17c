use Rattle.std.proofs.Common.{◌≡◌, length, subst, true, Some}
use Rattle.tm_inner.specs.InnerDecoding.{InnerDecoding}
use Rattle.tm_buffers.specs.Buffer.{has_room}
use Rattle.tm_buffers.specs.Decoding.{Decodes, IsDecoding, bits_room}
use Rattle.tm_buffers.proofs.DecodedCalls.{bits-decoded}
use Rattle.tm_buffers.proofs.buffer_decoder.BufferDecoder.feed.Goals as goal

pub returns-clause-decoded : goal.returns-clause-decoded
returns-clause-decoded c = λ given done few is room.
    let t = c.decode_due in
    let octets = c.args.octets.now in
    let bits = c.args.bits.now in
    subst (λ (d : InnerDecoding). IsDecoding d given done
    → has_room (bits_room d.config (length octets)) (length bits) ≡ true → Decodes t.new.inner given octets done (Some t.result) t.new.bits) c.self.view_is
    (bits-decoded c.self.inside.inner t.new.inner given octets done t.result bits t.new.bits
    t.ensures.within t.ensures.read few) is room
