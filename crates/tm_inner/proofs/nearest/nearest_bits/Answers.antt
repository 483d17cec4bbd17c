use Rattle.std.proofs.Common.{◌≡◌, ◌<◌, ◌+◌, ◌/◌, ◌%◌, ◌^◌, ◌==◌, ◌∷◌, ◌++◌, ◌∙◌, Bool, [], if◌then◌else◌, nat_le, get_or, map, take, refl, sym, ap, subst, arith, length-set}
use Rattle.std.proofs.lemmas.Grind.{take-set_at}
use Rattle.std.proofs.lemmas.List.Elements.{All-push}
use Rattle.std.proofs.lemmas.List.{map-append, take_all, take_more}
use Rattle.tm_conv.specs.Path.{AreBits}
use Rattle.tm_inner.specs.Inner.{nearest_bit}
use Rattle.tm_inner.proofs.PlainBits.{top_bit}
use Rattle.tm_inner.proofs.nearest.nearest_bits.Goals as goal

pub loop-k-preserved : goal.loop-k-preserved
loop-k-preserved c =
    let bits = c.loop-k.bits in
    let octets = c.args.octets.now in
    let k = c.loop-k.k in
    let octet = get_or octets k 0 in
    let value = c.unsigned.result / 2 ^ 7 in
    let near = nearest_bit c.args.config.now in
    let bit : (value == 1) ≡ near octet =
    top_bit c.unsigned.result (omega arith)
    ∙ ap (nat_le 128) (c.unsigned.ensures ∙ ap (λ (b : Bool). if b then (octet + 128) % 256 else octet)
    c.is_signed-is_signed.ensures) in
    let more = take-set_at bits k (k + 1) value refl (omega arith) in
    record {
      size = length-set bits k value ∙ c.loop-k.invariant.size;
      are_bits =
          subst AreBits (sym more)
          (All-push (λ b. b < 2) (take k bits) value c.loop-k.invariant.are_bits (omega arith));
      bits = ap (map (λ b. b == 1)) more
          ∙ map-append (λ b. b == 1) (take k bits) (value ∷ [])
          ∙ (λ i. c.loop-k.invariant.bits i ++ bit i ∷ [])
          ∙ sym (ap (map near) (take_more octets k 0 (omega (arith, c.loop-k.invariant.size)))
          ∙ map-append near (take k octets) (octet ∷ []));
    }

pub returns-clause-are_bits : goal.returns-clause-are_bits
returns-clause-are_bits c = subst AreBits (take_all c.loop-k.k c.loop-k.bits (omega arith)) c.loop-k.invariant.are_bits

pub returns-clause-bits : goal.returns-clause-bits
returns-clause-bits c =
    ap (map (λ b. b == 1)) (sym (take_all c.loop-k.k c.loop-k.bits (omega arith))) ∙ c.loop-k.invariant.bits
    ∙ ap (map (nearest_bit c.args.config.now)) (take_all c.loop-k.k c.args.octets.now
    (omega (arith, c.loop-k.invariant.size)))
