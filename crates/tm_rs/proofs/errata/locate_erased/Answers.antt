use Rattle.std.proofs.Common.{◌≡◌, ◌+◌, ◌-◌, ◌*◌, ℕ, length, take, arith, sym, ◌∙◌, subst, refl, true, false}
use Rattle.tm_gf256.specs.Poly.{entry, numbers}
use Rattle.tm_rs_code.specs.Erasures.{count_erased}
use Rattle.tm_rs_code.specs.PlaceValues.{AreValues}
use Rattle.tm_rs.specs.State.{IsShortest, Unexplained}
use Rattle.tm_rs.proofs.Endings.{elements_of, same_roots}
use Rattle.tm_rs.proofs.ErasedEndings.{least_steps, most_steps, modified_is, none_unexplained, none_by_roots, none_by_erased, some_erased}
use Rattle.tm_rs.proofs.errata.locate_erased.Goals as goal

-- how many syndromes are left
known_is : (e all fs_count count : ℕ) → all ≡ e → count ≡ fs_count → 2 * all - count ≡ 2 * e - fs_count
known_is e all fs_count count a b = omega arith

pub returns-in_default-clause-none : goal.returns-in_default-clause-none
returns-in_default-clause-none g c =
    let e : ℕ = c.args.params.now.e in
    let known = known_is c.args.params.now.e c.e.result (count_erased c.args.erased.now) c.count_erased-count.result
    c.e.ensures.value c.count_erased-count.ensures in
    none_unexplained c.args.params.now.e c.args.erased.now (entry c.args.syndromes.now)
    (entry c.modified-terms.result) (omega (arith, c.n-n.ensures.range.1, c.requires))
    (modified_is c.args.params.now.e c.args.erased.now (entry c.args.syndromes.now) (entry c.modified-terms.result)
    (entry c.erasure_locator-erasures.result) c.count_erased-count.result
    (2 * c.e.result - c.count_erased-count.result) c.count_erased-count.ensures known
    c.erasure_locator-erasures.ensures.locator c.modified-terms.ensures.values)
    (subst (λ (k : ℕ). Unexplained k (entry c.modified-terms.result)) known c.in_default.ensures.none)

pub returns-then-count_roots-found-clause-none : goal.returns-then-count_roots-found-clause-none
returns-then-count_roots-found-clause-none g c =
    let known = known_is c.args.params.now.e c.e.result (count_erased c.args.erased.now) c.count_erased-count.result
    c.e.ensures.value c.count_erased-count.ensures in
    none_by_roots c.args.params.now.e c.args.erased.now (entry c.args.syndromes.now)
    (entry c.modified-terms.result) c.in-Some.found.current c.in-Some.found.len
    (omega (arith, c.n-n.ensures.range.1, c.requires))
    (modified_is c.args.params.now.e c.args.erased.now (entry c.args.syndromes.now) (entry c.modified-terms.result)
    (entry c.erasure_locator-erasures.result) c.count_erased-count.result
    (2 * c.e.result - c.count_erased-count.result) c.count_erased-count.ensures known
    c.erasure_locator-erasures.ensures.locator c.modified-terms.ensures.values)
    (subst (λ (k : ℕ). IsShortest k (entry c.modified-terms.result)
    (entry c.in-Some.found.current) c.in-Some.found.len) known c.in-Some.ensures.some)
    c.in-Some.ensures.room (omega arith)
    (λ same. c.if-count_roots-found.true (c.count_roots.ensures
    (numbers (take (c.in-Some.found.len + 1) c.in-Some.found.current)) c.values_at_places-values.ensures.values
    ∙ same_roots c.in-Some.found.current c.in-Some.found.len c.n-n.result (length c.args.erased.now)
    (c.n-n.ensures.value ∙ sym c.requires) ∙ same))

pub returns-then-not-avoids_erased-clause-none : goal.returns-then-not-avoids_erased-clause-none
returns-then-not-avoids_erased-clause-none g c =
    let known = known_is c.args.params.now.e c.e.result (count_erased c.args.erased.now) c.count_erased-count.result
    c.e.ensures.value c.count_erased-count.ensures in
    none_by_erased c.args.params.now.e c.args.erased.now (entry c.args.syndromes.now)
    (entry c.modified-terms.result) c.in-Some.found.current c.in-Some.found.len
    (omega (arith, c.n-n.ensures.range.1, c.requires))
    (modified_is c.args.params.now.e c.args.erased.now (entry c.args.syndromes.now) (entry c.modified-terms.result)
    (entry c.erasure_locator-erasures.result) c.count_erased-count.result
    (2 * c.e.result - c.count_erased-count.result) c.count_erased-count.ensures known
    c.erasure_locator-erasures.ensures.locator c.modified-terms.ensures.values)
    (subst (λ (k : ℕ). IsShortest k (entry c.modified-terms.result)
    (entry c.in-Some.found.current) c.in-Some.found.len) known c.in-Some.ensures.some)
    c.in-Some.ensures.room (omega arith)
    (λ avoid. differ ((c.if-not-avoids_erased.ensures (numbers
    (take (c.in-Some.found.len + 1) c.in-Some.found.current))
    (subst (λ (n : ℕ). AreValues
    (numbers (take (c.in-Some.found.len + 1) c.in-Some.found.current)) n c.values_at_places-values.result)
    (c.n-n.ensures.value ∙ sym c.requires) c.values_at_places-values.ensures.values)).1 avoid))
  where
    differ : false ≡ true → ⊥
    differ e = cc

pub returns-clause-some : goal.returns-clause-some
returns-clause-some g c =
    let known = known_is c.args.params.now.e c.e.result (count_erased c.args.erased.now) c.count_erased-count.result
    c.e.ensures.value c.count_erased-count.ensures in
    some_erased c.args.params.now.e c.args.erased.now (entry c.args.syndromes.now)
    (entry c.modified-terms.result) c.in-Some.found.current c.in-Some.found.len
    (omega (arith, c.n-n.ensures.range.1, c.requires))
    (omega (arith, c.e.ensures.value, c.count_erased-count.ensures))
    (modified_is c.args.params.now.e c.args.erased.now (entry c.args.syndromes.now) (entry c.modified-terms.result)
    (entry c.erasure_locator-erasures.result) c.count_erased-count.result
    (2 * c.e.result - c.count_erased-count.result) c.count_erased-count.ensures known
    c.erasure_locator-erasures.ensures.locator c.modified-terms.ensures.values)
    (subst (λ (k : ℕ). IsShortest k (entry c.modified-terms.result)
    (entry c.in-Some.found.current) c.in-Some.found.len) known c.in-Some.ensures.some)
    c.in-Some.ensures.room (omega arith)
    (elements_of c.args.syndromes.now c.see_range.ensures) (elements_of c.modified-terms.result c.see_range-2.ensures)
    (sym (same_roots c.in-Some.found.current c.in-Some.found.len c.n-n.result (length c.args.erased.now)
    (c.n-n.ensures.value ∙ sym c.requires))
    ∙ sym (c.count_roots.ensures
    (numbers (take (c.in-Some.found.len + 1) c.in-Some.found.current)) c.values_at_places-values.ensures.values)
    ∙ c.if-count_roots-found.false)
    ((c.if-not-avoids_erased.ensures (numbers (take (c.in-Some.found.len + 1) c.in-Some.found.current))
    (subst (λ (n : ℕ). AreValues
    (numbers (take (c.in-Some.found.len + 1) c.in-Some.found.current)) n c.values_at_places-values.result)
    (c.n-n.ensures.value ∙ sym c.requires) c.values_at_places-values.ensures.values)).0 refl)

pub returns-in_default-clause-most : goal.returns-in_default-clause-most
returns-in_default-clause-most g c =
    most_steps c.args.params.now.e (count_erased c.args.erased.now) _ _ _ _ _ _ c.e.ensures.value
    c.count_erased-count.ensures
    c.erasure_locator-erasures.ensures.cost c.modified-terms.ensures.cost c.in_default.ensures.cost

pub returns-in_default-clause-least : goal.returns-in_default-clause-least
returns-in_default-clause-least g c = λ few.
    least_steps c.args.params.now.e (count_erased c.args.erased.now) _ _ _ _ _ _ c.e.ensures.value
    c.count_erased-count.ensures
    c.erasure_locator-erasures.ensures.cost c.modified-terms.ensures.cost c.in_default.ensures.later

pub returns-then-count_roots-found-clause-most : goal.returns-then-count_roots-found-clause-most
returns-then-count_roots-found-clause-most g c =
    most_steps c.args.params.now.e (count_erased c.args.erased.now) _ _ _ _ _ _ c.e.ensures.value
    c.count_erased-count.ensures
    c.erasure_locator-erasures.ensures.cost c.modified-terms.ensures.cost c.in-Some.ensures.cost

pub returns-then-count_roots-found-clause-least : goal.returns-then-count_roots-found-clause-least
returns-then-count_roots-found-clause-least g c = λ few.
    least_steps c.args.params.now.e (count_erased c.args.erased.now) _ _ _ _ _ _ c.e.ensures.value
    c.count_erased-count.ensures
    c.erasure_locator-erasures.ensures.cost c.modified-terms.ensures.cost c.in-Some.ensures.later

pub returns-then-not-avoids_erased-clause-most : goal.returns-then-not-avoids_erased-clause-most
returns-then-not-avoids_erased-clause-most g c =
    most_steps c.args.params.now.e (count_erased c.args.erased.now) _ _ _ _ _ _ c.e.ensures.value
    c.count_erased-count.ensures
    c.erasure_locator-erasures.ensures.cost c.modified-terms.ensures.cost c.in-Some.ensures.cost

pub returns-then-not-avoids_erased-clause-least : goal.returns-then-not-avoids_erased-clause-least
returns-then-not-avoids_erased-clause-least g c = λ few.
    least_steps c.args.params.now.e (count_erased c.args.erased.now) _ _ _ _ _ _ c.e.ensures.value
    c.count_erased-count.ensures
    c.erasure_locator-erasures.ensures.cost c.modified-terms.ensures.cost c.in-Some.ensures.later

pub returns-clause-most : goal.returns-clause-most
returns-clause-most g c =
    most_steps c.args.params.now.e (count_erased c.args.erased.now) _ _ _ _ _ _ c.e.ensures.value
    c.count_erased-count.ensures
    c.erasure_locator-erasures.ensures.cost c.modified-terms.ensures.cost c.in-Some.ensures.cost

pub returns-clause-least : goal.returns-clause-least
returns-clause-least g c = λ few.
    least_steps c.args.params.now.e (count_erased c.args.erased.now) _ _ _ _ _ _ c.e.ensures.value
    c.count_erased-count.ensures
    c.erasure_locator-erasures.ensures.cost c.modified-terms.ensures.cost c.in-Some.ensures.later
