use Rattle.std.proofs.Common.{◌-◌, ◌≡◌, ◌≤◌, ◌+◌, ◌*◌, ℕ, List, take, arith, subst, sym, ◌∙◌}
use Rattle.tm_gf256.specs.Poly.{entry, numbers}
use Rattle.tm_gf256.proofs.PolyLemmas.{length-numbers}
use Rattle.tm_rs_code.specs.Erasures.{count_erased, places_named}
use Rattle.tm_rs_code.specs.ErrorValues.{IsLocated}
use Rattle.tm_rs_code.proofs.Numbers.{AreElements-numbers}
use Rattle.tm_rs_code.proofs.ErasedWords.{fixed_erased, beyond_erased_far, beyond_erased_none}
use Rattle.tm_rs.proofs.Named.{least_steps, located_for, most_steps, named_few, weight-named}
use Rattle.tm_rs.proofs.erased_word.repaired.Goals as goal

pub returns-then-l-repair-clause-nearest : goal.returns-then-l-repair-clause-nearest
returns-then-l-repair-clause-nearest g c =
    let found = c.in-Some.ensures.some in
    beyond_erased_far c.args.params.now.e c.args.repair c.in-Some.l.degree c.args.erased.now (entry c.args.values.now)
    (numbers c.args.word.now) found.0
    (omega (arith, c.n-n.ensures.range.1, c.requires.flags))
    (length-numbers c.args.word.now ∙ c.requires.size ∙ sym c.requires.flags)
    (AreElements-numbers c.args.word.now c.see_range.ensures) (λ k lt. sym (c.requires.syndromes k lt))
    found.1 found.2.places (omega arith)

pub all_places-places-requires-clause-few : goal.all_places-places-requires-clause-few
all_places-places-requires-clause-few g c =
    omega (
      arith,
      c.requires.bound,
      named_few c.args.params.now.e c.args.erased.now (entry c.args.values.now) c.in-Some.l.coefs c.in-Some.l.degree
          (omega (arith, c.n-n.ensures.range.1, c.requires.flags)) c.in-Some.ensures.some,
    )

pub overflow_add-locator : goal.overflow_add-locator
overflow_add-locator g c =
    omega (
      arith,
      c.all_places-places.ensures.degree,
      named_few c.args.params.now.e c.args.erased.now (entry c.args.values.now) c.in-Some.l.coefs c.in-Some.l.degree
          (omega (arith, c.n-n.ensures.range.1, c.requires.flags)) c.in-Some.ensures.some,
    )

pub shared_ref_as_front-locator : goal.shared_ref_as_front-locator
shared_ref_as_front-locator g c =
    omega (
      arith,
      c.all_places-places.ensures.degree,
      c.all_places-places.ensures.room,
      named_few c.args.params.now.e c.args.erased.now (entry c.args.values.now) c.in-Some.l.coefs c.in-Some.l.degree
          (omega (arith, c.n-n.ensures.range.1, c.requires.flags)) c.in-Some.ensures.some,
    )

pub count_inside-inside-requires-clause-located : goal.count_inside-inside-requires-clause-located
count_inside-inside-requires-clause-located g c = (
  places_named (numbers (take (c.in-Some.l.degree + 1) c.in-Some.l.coefs)) c.args.erased.now,
  c.in-Some.ensures.some.0,
  located_for c.args.params.now.e c.args.erased.now (entry c.args.values.now) c.in-Some.l.coefs c.in-Some.l.degree
      (omega (arith, c.n-n.ensures.range.1, c.requires.flags)) c.in-Some.ensures.some c.e-e.result
      c.all_places-places.result.coefs c.all_places-places.result.degree c.e-e.ensures.value (omega arith)
      c.all_places-places.ensures.room c.all_places-places.ensures.degree c.all_places-places.ensures.locator,
)

pub correct-requires-clause-located : goal.correct-requires-clause-located
correct-requires-clause-located g c = (
  places_named (numbers (take (c.in-Some.l.degree + 1) c.in-Some.l.coefs)) c.args.erased.now,
  c.in-Some.ensures.some.0,
  located_for c.args.params.now.e c.args.erased.now (entry c.args.values.now) c.in-Some.l.coefs c.in-Some.l.degree
      (omega (arith, c.n-n.ensures.range.1, c.requires.flags)) c.in-Some.ensures.some c.e-e.result
      c.all_places-places.result.coefs c.all_places-places.result.degree c.e-e.ensures.value (omega arith)
      c.all_places-places.ensures.room c.all_places-places.ensures.degree c.all_places-places.ensures.locator,
)

pub returns-else-l-repair-clause-nearest : goal.returns-else-l-repair-clause-nearest
returns-else-l-repair-clause-nearest g c =
    let found = c.in-Some.ensures.some in
    let named : List ℕ = places_named (numbers (take (c.in-Some.l.degree + 1) c.in-Some.l.coefs)) c.args.erased.now in
    let whole : IsLocated c.e-e.result (entry c.args.values.now)
    (numbers (take (c.all_places-places.result.degree + 1) c.all_places-places.result.coefs)) named found.0 =
    located_for c.args.params.now.e c.args.erased.now (entry c.args.values.now) c.in-Some.l.coefs c.in-Some.l.degree
    (omega (arith, c.n-n.ensures.range.1, c.requires.flags)) c.in-Some.ensures.some c.e-e.result
    c.all_places-places.result.coefs c.all_places-places.result.degree c.e-e.ensures.value (omega arith)
    c.all_places-places.ensures.room c.all_places-places.ensures.degree c.all_places-places.ensures.locator in
    fixed_erased c.args.params.now.e c.args.repair c.in-Some.l.degree c.count_inside-inside.result c.args.erased.now
    (entry c.args.values.now) (numbers c.args.word.now) (numbers c.correct.new.word) found.0
    (length-numbers c.args.word.now ∙ c.requires.size ∙ sym c.requires.flags)
    (AreElements-numbers c.args.word.now c.see_range.ensures) (λ k lt. sym (c.requires.syndromes k lt))
    found.1 found.2.places (c.count_inside-inside.ensures.count named found.0 whole found.1.size) (omega arith)
    (c.correct.ensures named found.0 whole (found.1.size ∙ c.requires.flags ∙ sym c.requires.size))

pub returns-else-l-repair-clause-cost : goal.returns-else-l-repair-clause-cost
returns-else-l-repair-clause-cost g c =
    let found = c.in-Some.ensures.some in
    let few : count_erased c.args.erased.now ≤ 2 * c.args.params.now.e = omega (arith, found.1.few) in
    let places : c.all_places-places.result.degree ≤ 2 * c.args.params.now.e =
    omega (
      arith,
      c.all_places-places.ensures.degree,
      named_few c.args.params.now.e c.args.erased.now (entry c.args.values.now) c.in-Some.l.coefs c.in-Some.l.degree
          (omega (arith, c.n-n.ensures.range.1, c.requires.flags)) c.in-Some.ensures.some,
    ) in
    most_steps c.args.params.now.e (count_erased c.args.erased.now) c.all_places-places.result.degree c.args.steps.now
    c.locate_erased.new.steps c.all_places-places.new.steps c.e-e.ensures.strength
    few places (c.in-Some.ensures.most few)
    (subst (λ (s : ℕ). 2 * c.all_places-places.new.steps + s * (s + 1)
    ≡ 2 * c.locate_erased.new.steps + c.all_places-places.result.degree * (c.all_places-places.result.degree + 1))
    c.count_erased.ensures c.all_places-places.ensures.cost)

pub returns-else-l-repair-clause-least : goal.returns-else-l-repair-clause-least
returns-else-l-repair-clause-least g c = λ few.
    let found : List ℕ = numbers (take (c.in-Some.l.degree + 1) c.in-Some.l.coefs) in
    let e = c.args.params.now.e in
    let count = count_erased c.args.erased.now in
    least_steps c.count_erased.result c.all_places-places.result.degree c.locate_erased.new.steps
    c.all_places-places.new.steps
    (2 * c.args.steps.now + count * (count + 1) + 2 * ((2 * e - count) * (count + 1)))
    (omega (arith, c.count_erased.ensures, c.all_places-places.ensures.degree, weight-named found c.args.erased.now))
    c.all_places-places.ensures.cost (c.in-Some.ensures.least few)

pub returns-in-None-clause-nearest : goal.returns-in-None-clause-nearest
returns-in-None-clause-nearest g c =
    beyond_erased_none c.args.params.now.e c.args.repair c.args.erased.now (entry c.args.values.now)
    (numbers c.args.word.now)
    (length-numbers c.args.word.now ∙ c.requires.size ∙ sym c.requires.flags)
    (AreElements-numbers c.args.word.now c.see_range.ensures) (λ k lt. sym (c.requires.syndromes k lt))
    c.in-None.ensures.none
