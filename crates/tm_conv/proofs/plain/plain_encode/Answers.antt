use Rattle.std.proofs.Common.{◌≡◌, ◌*◌, ◌≤◌, ◌∙◌, ◌++◌, List, ℕ, take, length, arith, sym, ap, subst}
use Rattle.std.proofs.lemmas.List.{take_all}
use Rattle.tm_base.specs.Bits.{bits_of}
use Rattle.tm_base.proofs.Packing.{length-bits_of}
use Rattle.tm_conv.specs.Encoding.{EncoderStandsFor, sent_for, levels}
use Rattle.tm_conv.proofs.BitsInOrder.{bits-push, given-more, levels-more}
use Rattle.tm_conv.proofs.plain.plain_encode.Goals as goal

pub loop-k-preserved : goal.loop-k-preserved
loop-k-preserved c =
    let now = c.loop-k.invariant in
    let octets = c.args.octets.now in
    let k = c.loop-k.k in
    let more = bits-push octets k c.loop-k-test.true in
    record {
      rate = c.step-symbols.ensures.rate ∙ now.rate;
      invert = c.step-symbols.ensures.invert ∙ now.invert;
      count = omega (arith, c.store-count.ensures.at_most, now.count);
      length = c.store-count.ensures.length ∙ now.length;
      stands =
          λ given stood. subst (EncoderStandsFor c.step-symbols.new.self) (given-more given (bits_of octets) k _ more)
          (c.step-symbols.ensures.stands _ (now.stands given stood));
      sent = λ given stood.
          levels-more c.args.encoder.now c.loop-k.encoder c.args.low given (bits_of octets) k _ _
          (take c.loop-k.count c.loop-k.out)
          (take c.store-count.result c.store-count.new.out) now.rate now.invert more
          (c.step-symbols.ensures.sent _ (now.stands given stood)) (now.sent given stood) c.store-count.ensures.stored;
    }

-- all bits were taken
all_taken : (k : ℕ) (octets : List ℕ) → 8 * length octets ≤ k → take k (bits_of octets) ≡ bits_of octets
all_taken k octets end = take_all k (bits_of octets) (omega (arith, length-bits_of octets))

pub returns-clause-stands : goal.returns-clause-stands
returns-clause-stands c = λ given stood.
    subst (λ l. EncoderStandsFor c.loop-k.encoder (given ++ l))
    (all_taken c.loop-k.k c.args.octets.now c.loop-k-test.false) (c.loop-k.invariant.stands given stood)

pub returns-clause-sent : goal.returns-clause-sent
returns-clause-sent c = λ given stood.
    ap (λ l. levels c.args.low (sent_for c.args.encoder.now.rate c.args.encoder.now.invert (given ++ l)))
    (sym (all_taken c.loop-k.k c.args.octets.now c.loop-k-test.false)) ∙ c.loop-k.invariant.sent given stood
