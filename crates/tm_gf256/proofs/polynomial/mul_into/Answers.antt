use Rattle.std.proofs.Common.{◌≡◌, ◌<◌, ◌+◌, ◌-◌, ℕ, suc, List, [], ◌∷◌, ◌++◌, length, map, take, set, sym, ap, ◌∙◌, arith, take_all, zero-add}
use Rattle.std.specs.List.{range_with_len}
use Rattle.std.proofs.lemmas.List.FromFn.{map-range_with_len_more}
use Rattle.tm_gf256.specs.Poly.{numbers, convolution, product}
use Rattle.tm_gf256.specs.declared.element.Gf.{Gf}
use Rattle.tm_gf256.proofs.PolyLemmas.{length-numbers, numbers-take_more_set}
use Rattle.tm_gf256.proofs.polynomial.mul_into.Goals as goal

-- one more coefficient is written
one_more : (f : ℕ → ℕ) (out : List Gf) (i : ℕ) (y : Gf) → i < length out → y.0 ≡ f i
    → numbers (take i out) ≡ map f (range_with_len 0 i)
    → numbers (take (i + 1) (set out i y)) ≡ map f (range_with_len 0 (i + 1))
one_more f out i y lt is done =
    numbers-take_more_set out i y lt
    ∙ ap (λ (l : List ℕ). l ++ y.0 ∷ []) done
    ∙ ap (λ (n : ℕ). map f (range_with_len 0 i) ++ n ∷ []) is
    ∙ sym (map-range_with_len_more f 0 i i (zero-add i))

pub loop-place-preserved : goal.loop-place-preserved
loop-place-preserved c =
    one_more (λ m. convolution (numbers c.args.a.now) (numbers c.args.b.now) m (suc m))
    c.loop-place.out c.loop-place.place c.product_coefficient.result
    (omega arith) c.product_coefficient.ensures c.loop-place.invariant

whole : (a b out : List Gf) (i : ℕ) → length out ≡ i → length out ≡ length a + length b - 1
    → numbers (take i out) ≡ map (λ m. convolution (numbers a) (numbers b) m (suc m)) (range_with_len 0 i)
    → numbers out ≡ product (numbers a) (numbers b)
unfolding product
whole a b out i full size done =
    let long : i ≡ length (numbers a) + length (numbers b) - 1 =
    rw (length-numbers a, length-numbers b) (omega arith) in
    sym (ap numbers (take_all i out (omega arith))) ∙ done
    ∙ ap (λ (n : ℕ). map (λ m. convolution (numbers a) (numbers b) m (suc m)) (range_with_len 0 n)) long

pub returns : goal.returns
returns c =
    whole c.args.a.now c.args.b.now c.loop-place.out c.loop-place.place (omega arith)
    (omega arith) c.loop-place.invariant
