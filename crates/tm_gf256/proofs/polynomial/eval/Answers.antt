use Rattle.std.proofs.Common.{◌≡◌, ◌<◌, ◌+◌, ℕ, take, length, sym, ap, ◌∙◌, List}
use Rattle.std.specs.Prelude.{bit_xor}
use Rattle.tm_gf256.specs.Field.{times}
use Rattle.tm_gf256.specs.Poly.{numbers, value_at, entry}
use Rattle.tm_gf256.specs.declared.element.Gf.{Gf}
use Rattle.tm_gf256.proofs.PolyLemmas.{numbers-take_more, value_at-push}
use Rattle.tm_gf256.proofs.polynomial.eval.Goals as goal

one_more : (xs : List Gf) (i x : ℕ) (s p r : ℕ) → i < length xs → entry xs i < 256
    → s ≡ value_at (numbers (take i xs)) x → p ≡ times s x → r ≡ bit_xor p (entry xs i)
    → r ≡ value_at (numbers (take (i + 1) xs)) x
one_more xs i x s p r lt small inv prod sum =
    sum ∙ ap (λ (y : ℕ). bit_xor y (entry xs i)) (prod ∙ ap (λ (y : ℕ). times y x) inv)
    ∙ sym (ap (λ (l : List ℕ). value_at l x) (numbers-take_more xs i lt)
    ∙ value_at-push (numbers (take i xs)) (entry xs i) x small)

pub loop-c-preserved : goal.loop-c-preserved
loop-c-preserved c =
    one_more c.args.poly.now c.loop-c.c-index c.args.x.0 c.loop-c.value.0 c.mul.result.0 c.add-value.result.0
    c.loop-c-test.true c.number-number.ensures.small c.loop-c.invariant c.mul.ensures c.add-value.ensures
