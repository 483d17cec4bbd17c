use Rattle.std.proofs.Common.{◌∙◌, Option, ap, arith, length, subst, sym, take}
use Rattle.std.proofs.lemmas.List.{take_at}
use Rattle.tm_base.specs.Bits.{AreOctets, bits_of}
use Rattle.tm_base.proofs.Octets.{are_octets}
use Rattle.tm_base.proofs.Packing.{bits_of-append}
use Rattle.tm_conv.specs.Encoding.{Encoding, EncoderStandsFor}
use Rattle.tm_inner.specs.Sending.{IsEncoderOf, KeepsFor}
use Rattle.tm_inner.proofs.Sending.{bits-are, encoder-due, octets-are}
use Rattle.tm_inner.proofs.inner_sender.symbols_of.Goals as goal

pub returns-in-Some-clause-stands : goal.returns-in-Some-clause-stands
returns-in-Some-clause-stands c = λ given stood.
    let octets = c.args.octets.now in
    subst (EncoderStandsFor c.encode.new.self) (sym (bits_of-append given octets))
    (c.encode.ensures.stands (bits_of given)
    (subst (λ (e : Option Encoding). KeepsFor e given) c.in-Some.is stood))

pub returns-in-Some-clause-due : goal.returns-in-Some-clause-due
returns-in-Some-clause-due c = λ given stood.
    let config = c.args.config.now in
    encoder-due config c.in-Some.encoder c.encode.new.self c.low_level.result c.args.octets.now
    (take c.encode.result c.encode.new.out) given (subst (IsEncoderOf config) c.in-Some.is c.requires.encoder)
    c.low_level.ensures (record { stands = c.encode.ensures.stands; sent = c.encode.ensures.sent })
    (subst (λ (e : Option Encoding). KeepsFor e given) c.in-Some.is stood)

pub returns-then-is_packed-clause-due : goal.returns-then-is_packed-clause-due
returns-then-is_packed-clause-due c = λ given stood.
    let config = c.args.config.now in
    let octets = c.args.octets.now in
    let small : AreOctets octets = are_octets octets (λ i. omega (arith, c.type_inv.octets i)) in
    octets-are config given octets (subst (IsEncoderOf config) c.in-None.is c.requires.encoder)
    (sym c.if-is_packed.true ∙ c.is_packed.ensures) small
    ∙ sym (take_at c.copy_from_slice.new.self _ (length octets) (ap length c.copy_from_slice.ensures.after)
    ∙ c.copy_from_slice.ensures.after)

pub returns-else-is_packed-clause-due : goal.returns-else-is_packed-clause-due
returns-else-is_packed-clause-due c = λ given stood.
    let config = c.args.config.now in
    bits-are config c.low_level-else-is_packed.result given c.args.octets.now (subst (IsEncoderOf config) c.in-None.is c.requires.encoder)
    (sym c.if-is_packed.false ∙ c.is_packed.ensures) c.low_level-else-is_packed.ensures ∙ sym c.spread.ensures.bits
