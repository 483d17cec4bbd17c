use Rattle.std.proofs.Common.{◌+◌, ◌-◌, ◌*◌, ◌∙◌, ap, ℕ, arith, refl, length}
use Rattle.std.proofs.lemmas.Simd.{length-zip2}
use Rattle.std.specs.Prelude.{bit_xor}
use Rattle.tm_gf256.specs.Field.{times}
use Rattle.tm_gf256.specs.Poly.{numbers, value_at}
use Rattle.tm_rs_code.specs.Code.{place_of}
use Rattle.tm_rs_code.proofs.PowerRows.{sum_more, sum_none}
use Rattle.tm_rs_code.proofs.lanes.place_values.Goals as goal

pub loop-i-init : goal.loop-i-init
loop-i-init c = record {
  long = refl;
  part = λ m lm. sum_none m (value_at (numbers c.args.poly.now) (place_of (16 * c.args.group + m))) lm;
  next_long = refl;
  next_part = λ m lm. sum_none m (value_at (numbers c.args.poly.now) (place_of (16 * (c.args.group + 1) + m))) lm;
}

pub loop-i-preserved : goal.loop-i-preserved
loop-i-preserved c =
    let k : ℕ = length c.args.poly.now - 1 - c.loop-i.i in
    let f : ℕ = c.number-factor.result in
    let held = c.loop-i.invariant in
    record {
      long =
          length-zip2 bit_xor c.loop-i.sum c.product-sum.result (omega (arith, held.long, c.product-sum.ensures.long))
          ∙ held.long;
      part = λ m lm.
          sum_more (place_of (16 * c.args.group + m)) c.args.poly.now c.loop-i.i m k (omega arith)
          (omega arith) lm c.loop-i.sum c.product-sum.result f
          held.long c.product-sum.ensures.long c.number-factor.ensures.value
          (c.product-sum.ensures.value f c.low_products-low.ensures c.high_products-high.ensures m lm
          ∙ ap (times f) (c.powers_of.ensures.each k m (omega arith) lm)) (held.part m lm);
      next_long =
          length-zip2 bit_xor c.loop-i.next c.product-next.result
          (omega (arith, held.next_long, c.product-next.ensures.long)) ∙ held.next_long;
      next_part = λ m lm.
          sum_more (place_of (16 * (c.args.group + 1) + m)) c.args.poly.now c.loop-i.i m k (omega arith)
          (omega arith) lm c.loop-i.next c.product-next.result f
          held.next_long c.product-next.ensures.long c.number-factor.ensures.value
          (c.product-next.ensures.value f c.low_products-low.ensures c.high_products-high.ensures m lm
          ∙ ap (times f) (c.powers_of-2.ensures.each k m (omega arith) lm)) (held.next_part m lm);
    }
