use Rattle.std.proofs.Common.{◌∙◌, ◌%◌, ◌==◌, ◌∷◌, [], ap, sym}
use Rattle.std.proofs.Math.Nat.{div-one}
use Rattle.tm_base.specs.Bits.{bit_number, low_bits}
use Rattle.tm_conv.specs.Encoding.{level}
use Rattle.tm_inner.proofs.spreading.spread_octet.Goals as goal

pub returns : goal.returns
unfolding low_bits
returns c = λ i.
    c.level.ensures i ∷ c.level-2.ensures i ∷ c.level-3.ensures i ∷ c.level-4.ensures i ∷ c.level-5.ensures i
    ∷ c.level-6.ensures i ∷ c.level-7.ensures i
    ∷ (c.level-8.ensures ∙ ap (λ n. level c.args.low (bit_number (n % 2 == 1))) (sym (div-one c.args.octet))) i ∷ []
