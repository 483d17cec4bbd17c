use Rattle.std.proofs.Common.{◌≡◌, ◌<◌, ◌≤◌, ◌+◌, ◌-◌, ℕ, List, [], ◌∷◌, ◌++◌, length, take, set, sym, ap, ◌∙◌, arith, take_all}
use Rattle.tm_gf256.specs.Poly.{numbers, entry, derivative, copies}
use Rattle.tm_gf256.specs.declared.element.Gf.{Gf}
use Rattle.tm_gf256.proofs.PolyLemmas.{length-numbers, get_or-numbers, numbers-take_more_set}
use Rattle.tm_gf256.proofs.Coefficients.{derivative_more, length-derivative}
use Rattle.tm_gf256.proofs.polynomial.derivative_into.Goals as goal

-- one more coefficient is written
one_more : (xs out : List Gf) (i : ℕ) (y : Gf) → i < length out → length out ≡ length xs - 1
    → y.0 ≡ copies (length xs - 1 - i) (entry xs i)
    → numbers (take i out) ≡ take i (derivative (numbers xs))
    → numbers (take (i + 1) (set out i y)) ≡ take (i + 1) (derivative (numbers xs))
one_more xs out i y lt size is done =
    let inside : i < length (numbers xs) - 1 = rw (length-numbers xs) (omega arith) in
    numbers-take_more_set out i y lt
    ∙ ap (λ (l : List ℕ). l ++ y.0 ∷ []) done
    ∙ ap (λ (n : ℕ). take i (derivative (numbers xs)) ++ n ∷ [])
    (is ∙ ap (λ (n : ℕ). copies (n - 1 - i) (entry xs i)) (sym (length-numbers xs))
    ∙ ap (copies (length (numbers xs) - 1 - i)) (sym (get_or-numbers xs i)))
    ∙ sym (derivative_more (numbers xs) i inside)

pub loop-place-preserved : goal.loop-place-preserved
loop-place-preserved c =
    one_more c.args.poly.now c.loop-place.out c.loop-place.place c.repeated.result (omega arith) (omega arith)
    c.repeated.ensures c.loop-place.invariant

whole : (xs out : List Gf) (i : ℕ) → length out ≤ i → length out ≡ length xs - 1
    → numbers (take i out) ≡ take i (derivative (numbers xs)) → numbers out ≡ derivative (numbers xs)
whole xs out i past size done =
    let as_long : length (derivative (numbers xs)) ≤ i = rw (length-derivative (numbers xs), length-numbers xs)
    (omega arith) in
    sym (ap numbers (take_all i out past)) ∙ done ∙ take_all i (derivative (numbers xs)) as_long

pub returns : goal.returns
returns c = whole c.args.poly.now c.loop-place.out c.loop-place.place (omega arith) (omega arith) c.loop-place.invariant
