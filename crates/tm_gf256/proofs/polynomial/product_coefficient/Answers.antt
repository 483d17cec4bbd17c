use Rattle.std.proofs.Common.{◌≡◌, ◌≤◌, ◌+◌, ◌-◌, ◌⊎◌, ℕ, suc, List, length, sym, ap, ◌∙◌, arith, inl, inr, add-one, get_or}
use Rattle.std.specs.Prelude.{bit_xor}
use Rattle.tm_gf256.specs.Field.{times}
use Rattle.tm_gf256.specs.Poly.{numbers, entry, convolution}
use Rattle.tm_gf256.specs.declared.element.Gf.{Gf}
use Rattle.tm_gf256.proofs.PolyLemmas.{length-numbers, get_or-numbers}
use Rattle.tm_gf256.proofs.Coefficients.{convolution-start, convolution_more, convolution_from}
use Rattle.tm_gf256.proofs.polynomial.product_coefficient.Goals as goal
use Rattle.tm_gf256.proofs.polynomial.product_coefficient.Goals.{then-place-a, else-place-a}

pub loop-i-init : goal.loop-i-init
loop-i-init c = convolution-start (numbers c.args.a.now) (numbers c.args.b.now) c.args.place

-- one more term is added
one_more : (a b : List Gf) (m i s p d r : ℕ) → s ≡ convolution (numbers a) (numbers b) m i
    → d ≡ get_or (numbers b) (m - i) 0 → p ≡ times (entry a i) d → r ≡ bit_xor s p
    → r ≡ convolution (numbers a) (numbers b) m (i + 1)
one_more a b m i s p d r before partner product sum =
    sum ∙ ap (bit_xor s) product ∙ ap (λ (y : ℕ). bit_xor y (times (entry a i) d)) before
    ∙ convolution_more (numbers a) (numbers b) m i (entry a i) d (sym (get_or-numbers a i)) partner
    ∙ ap (convolution (numbers a) (numbers b) m) (sym (add-one i))

pub loop-i-preserved : goal.loop-i-preserved
loop-i-preserved c =
    one_more c.args.a.now c.args.b.now c.args.place c.loop-i.i c.loop-i.sum.0 c.mul.result.0
    c.coefficient_or_zero.result.0
    c.add-sum.result.0 c.loop-i.invariant c.coefficient_or_zero.ensures c.mul.ensures c.add-sum.ensures

-- the terms that were added are all
all_terms : (a b : List Gf) (m i sum : ℕ) → (i ≡ suc m) ⊎ ((length a ≡ i) × (i ≤ suc m))
    → sum ≡ convolution (numbers a) (numbers b) m i → sum ≡ convolution (numbers a) (numbers b) m (suc m)
all_terms a b m i sum (inl e) is = is ∙ ap (convolution (numbers a) (numbers b) m) e
all_terms a b m i sum (inr e) is =
    is ∙ sym (convolution_from (numbers a) (numbers b) m (suc m) i (length-numbers a ∙ e.0) e.1)

pub returns : goal.returns
returns c =
    let counted : (c.loop-i.i ≡ suc c.args.place) ⊎ ((length c.args.a.now ≡ c.loop-i.i)
    × (c.loop-i.i ≤ suc c.args.place)) =
    elim c.if-place-a.branch [
      | then-place-a w ↦ inl (omega (arith, w.terms-is))
      | else-place-a w ↦ inr (omega (arith, w.terms-is), omega (arith, w.terms-is))
    ] in
    all_terms c.args.a.now c.args.b.now c.args.place c.loop-i.i c.loop-i.sum.0 counted c.loop-i.invariant
