use Rattle.std.proofs.Common.{◌≡◌, ◌+◌, ◌-◌, ◌∙◌, ℕ, ap, sym, arith, length, take, drop, map}
use Rattle.std.proofs.lemmas.List.{length-map}
use Rattle.std.proofs.lemmas.Simd.{take_more_put_chunk}
use Rattle.tm_gf256.specs.Poly.{numbers}
use Rattle.tm_gf256.specs.Dual.{dual_octet}
use Rattle.tm_gf256.proofs.Halves.{octet_halves}
use Rattle.tm_gf256.proofs.Sixteens.{numbers-drop, numbers-take, mapped_more}
use Rattle.tm_gf256.proofs.dual_lanes.put_octets.Goals as goal

pub returns : goal.returns
returns c done =
    let at : ℕ = c.args.at in
    let xs = c.args.elements.now in
    let size : at + 16 - at ≡ 16 = omega arith in
    let sixteen : c.all_to_numbers.new.octets ≡ take 16 (drop at (numbers xs)) =
    c.all_to_numbers.ensures ∙ ap (λ (n : ℕ). numbers (take n (drop at xs))) size ∙ numbers-take 16 (drop at xs)
    ∙ ap (take 16) (numbers-drop at xs) in
    let is : c.mapped.result ≡ map dual_octet c.all_to_numbers.new.octets = c.mapped.ensures dual_octet octet_halves in
    let long : length c.mapped.result ≡ 16 = ap length is ∙ length-map c.all_to_numbers.new.octets dual_octet
    ∙ c.all_to_numbers.auto.octets in
    take_more_put_chunk at c.args.octets.now c.mapped.result (at + 16) (omega (arith, long)) (omega arith)
    ∙ mapped_more dual_octet (numbers xs) (take at c.args.octets.now) c.mapped.result at 16
    (done ∙ ap (map dual_octet) (numbers-take at xs)) (is ∙ ap (map dual_octet) sixteen)
    ∙ ap (map dual_octet) (sym (numbers-take (at + 16) xs))
