use Rattle.std.proofs.Common.{subst}
use Rattle.tm_inner.proofs.PlainBits.{nearest-after}
use Rattle.tm_channel.specs.OctetReceiving.{ReceivedAt}
use Rattle.tm_channel.proofs.pipeline.take_nearest.Goals as goal

pub returns-clause-handed : goal.returns-clause-handed
returns-clause-handed g c =
    let now = c.receive_bits.new in
    subst (ReceivedAt g.T.ItemWatch.took c.args.stream.now now.self c.args.taker.now now.taker)
    (nearest-after c.args.inner.now.config c.args.skip c.min-from.result c.args.octets.now c.nearest_bits.new.bits
    c.min-from.ensures c.nearest_bits.ensures.bits) c.receive_bits.ensures.handed
