use Rattle.std.proofs.Common.{◌≡◌, ◌<◌, ◌-◌, ℕ, length, arith, ap, sym, ◌∙◌, subst}
use Rattle.tm_gf256.specs.Field.{times, power}
use Rattle.tm_gf256.specs.Poly.{entry, value_at}
use Rattle.tm_rs_code.specs.Code.{place_of}
use Rattle.tm_rs_code.specs.Recurrence.{listing}
use Rattle.tm_rs_code.specs.ErrorValues.{quotient_at, symbol_at}
use Rattle.tm_rs_code.proofs.Factor.{value_at-lt}
use Rattle.tm_rs_code.proofs.Division.{IsValue}
use Rattle.tm_rs.proofs.ErrorsAt.{place, no_symbols, error_is, scale_is, divided_out, symbol_at-lt, weight_of_locator}
use Rattle.tm_rs.proofs.error_values.value_at_root.Goals as goal

pub returns-then-degree-eq0 : goal.returns-then-degree-eq0
returns-then-degree-eq0 c = λ u w h.
    sym (no_symbols u w c.args.p h.size h.covered (omega (
      arith,
      weight_of_locator c.args.e (entry c.args.syndromes.now) c.args.locator.now u w h,
    )))

pub inv-requires : goal.inv-requires
inv-requires c = λ z.
    let found = c.requires.located in
    let is : IsValue (entry c.args.locator.now) (entry c.args.syndromes.now) c.args.e (length c.args.locator.now - 1)
    (place_of c.args.p) (symbol_at found.1 c.args.p) =
    error_is c.args.e (entry c.args.syndromes.now) c.args.locator.now found.0 found.1
    (length c.args.locator.now - 1) c.see_range.ensures (omega arith) c.if-degree-eq0.false
    found.2 c.args.p c.requires.inside
    c.requires.root in
    scale_is c.args.p c.pow.result.0 c.exp-x.result.0 c.divide-parts.result.slope.0 (128 - c.args.e)
    (subst (λ (y : ℕ). y < 256) (sym c.divide-parts.ensures.slope)
    (value_at-lt (listing (quotient_at (entry c.args.locator.now) c.exp-x.result.0) 0
    (length c.args.locator.now - 1)) c.exp-x.result.0))
    (λ zero. is.slope (ap (λ (x : ℕ). value_at (listing (quotient_at (entry c.args.locator.now) x) 0
    (length c.args.locator.now - 1)) x) (place c.args.p c.exp-x.result.0 c.exp-x.ensures)
    ∙ sym c.divide-parts.ensures.slope ∙ zero))
    c.exp-x.ensures c.pow.ensures (sym c.mul-scale.ensures ∙ z)

pub returns : goal.returns
returns c = λ u w h.
    let is : IsValue (entry c.args.locator.now) (entry c.args.syndromes.now) c.args.e (length c.args.locator.now - 1)
    (place_of c.args.p) (symbol_at w c.args.p) =
    error_is c.args.e (entry c.args.syndromes.now) c.args.locator.now u w
    (length c.args.locator.now - 1) c.see_range.ensures (omega arith) c.if-degree-eq0.false
    h c.args.p c.requires.inside
    c.requires.root in
    let at : place_of c.args.p ≡ c.exp-x.result.0 = place c.args.p c.exp-x.result.0 c.exp-x.ensures in
    let is' : IsValue (entry c.args.locator.now) (entry c.args.syndromes.now) c.args.e
    (length c.args.locator.now - 1) c.exp-x.result.0 (symbol_at w c.args.p) =
    subst (λ (x : ℕ). IsValue (entry c.args.locator.now) (entry c.args.syndromes.now) c.args.e
    (length c.args.locator.now - 1) x (symbol_at w c.args.p)) at is in
    divided_out (symbol_at w c.args.p) c.divide-parts.result.sum.0 c.mul-scale.result.0 c.inv.result.0 c.mul.result.0
    (symbol_at-lt w c.args.p h.elements)
    (c.divide-parts.ensures.sum ∙ is'.value
    ∙ ap (times (symbol_at w c.args.p)) (ap (λ (y : ℕ). times y (power c.exp-x.result.0 (128 - c.args.e)))
    (sym c.divide-parts.ensures.slope)
    ∙ ap (times c.divide-parts.result.slope.0) (sym c.pow.ensures) ∙ sym c.mul-scale.ensures))
    c.inv.ensures.undoes c.mul.ensures
