use Rattle.std.proofs.Common.{◌∙◌, drop, sym, ap, subst}
use Rattle.tm_base.specs.Bits.{bits_of}
use Rattle.tm_channel.specs.OctetReceiving.{ReceivedAt}
use Rattle.tm_inner.proofs.PlainBits.{plain-nearest, plain-packed}
use Rattle.tm_channel.proofs.SkippedBits.{drop-most}
use Rattle.tm_channel.proofs.pipeline.take_after.Goals as goal

pub returns-then-not-is_packed-clause-handed : goal.returns-then-not-is_packed-clause-handed
returns-then-not-is_packed-clause-handed g c =
    let now = c.take_nearest.new in
    subst (ReceivedAt g.T.ItemWatch.took c.args.stream.now now.stream c.args.taker.now now.taker)
    (ap (drop c.args.skip) (sym (plain-nearest c.args.inner.now.config c.args.octets.now
    (sym c.is_packed.ensures ∙ c.if-not-is_packed.true)))) c.take_nearest.ensures.handed

pub returns-clause-handed : goal.returns-clause-handed
returns-clause-handed g c =
    let octets = c.args.octets.now in
    let packed = ap (drop c.args.skip) (sym (plain-packed c.args.inner.now.config octets
    (sym c.is_packed.ensures ∙ c.if-not-is_packed.false))) in
    subst (ReceivedAt g.T.ItemWatch.took c.args.stream.now c.receive.new.self c.args.taker.now c.receive.new.taker)
    (ap (λ n. drop n (bits_of octets)) c.min-from.ensures ∙ drop-most c.args.skip octets ∙ packed)
    c.receive.ensures.handed
