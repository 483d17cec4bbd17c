use Rattle.std.proofs.Common.{◌≡◌, length, subst, true, Some}
use Rattle.tm_inner.specs.InnerDecoding.{InnerDecoding}
use Rattle.tm_buffers.specs.Buffer.{has_room}
use Rattle.tm_buffers.specs.Decoding.{DecodesLast, IsDecoding, bits_room}
use Rattle.tm_buffers.proofs.DecodedCalls.{bits-ended}
use Rattle.tm_buffers.proofs.buffer_decoder.BufferDecoder.finish.Goals as goal

pub returns-clause-decoded : goal.returns-clause-decoded
returns-clause-decoded c = λ given done is room.
    let t = c.end in
    let bits = c.args.bits.now in
    subst (λ (d : InnerDecoding). IsDecoding d given done → has_room (bits_room d.config 0) (length bits) ≡ true
    → DecodesLast d t.new.inner given done (Some t.result) t.new.bits) c.self.view_is
    (bits-ended c.self.inside.inner t.new.inner given done t.result bits t.new.bits t.ensures.within
    t.ensures.writes) is room
