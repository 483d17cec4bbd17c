use Rattle.std.proofs.Common.{◌+◌, ◌-◌, ◌∙◌, ℕ, ap, arith, take}
use Rattle.std.proofs.lemmas.Slice.{take-put_mid}
use Rattle.tm_gf256.specs.Poly.{numbers}
use Rattle.tm_gf256.proofs.PolyLemmas.{numbers-append}
use Rattle.tm_gf256.specs.Dual.{dual_element}
use Rattle.tm_gf256.proofs.Halves.{element_halves}
use Rattle.tm_gf256.proofs.Sixteens.{mapped_more}
use Rattle.tm_gf256.proofs.dual_lanes.put_elements.Goals as goal

pub returns : goal.returns
returns c done =
    let at : ℕ = c.args.at in
    let ys = c.all_from_numbers.new.elements in
    ap numbers (take-put_mid at (at + 16 - at) c.args.elements.now ys (at + 16)
    (omega (arith, c.all_from_numbers.auto.elements)) (omega arith))
    ∙ numbers-append (take at c.args.elements.now) ys
    ∙ mapped_more dual_element c.args.octets.now (numbers (take at c.args.elements.now)) (numbers ys) at 16 done
    (c.all_from_numbers.ensures ∙ c.mapped-found.ensures dual_element element_halves)
