use Rattle.std.proofs.Common.{◌+◌, ℕ, take, arith, sym, ◌∙◌, subst}
use Rattle.tm_gf256.specs.Poly.{entry, numbers}
use Rattle.tm_gf256.proofs.PolyLemmas.{length-numbers}
use Rattle.tm_rs_code.specs.ErrorValues.{IsLocated}
use Rattle.tm_rs_code.proofs.Numbers.{AreElements-numbers}
use Rattle.tm_rs.proofs.Words.{located, fixed_is, beyond_far, beyond_none}
use Rattle.tm_rs.proofs.word.repaired.Goals as goal

pub returns-then-l-repair-clause-nearest : goal.returns-then-l-repair-clause-nearest
returns-then-l-repair-clause-nearest g c =
    let found = c.in-Some.ensures.some in
    beyond_far c.args.params.now.e c.args.params.now.n c.args.repair c.in-Some.l.degree (entry c.args.values.now)
    (numbers c.args.word.now) found.0
    (c.n-n.ensures.range.1) (length-numbers c.args.word.now ∙ c.requires.size)
    (AreElements-numbers c.args.word.now c.see_range.ensures) (λ k lt. sym (c.requires.syndromes k lt))
    found.1 found.2.places (omega arith) c.requires.bound

pub correct-requires-clause-located : goal.correct-requires-clause-located
correct-requires-clause-located g c =
    let found = c.in-Some.ensures.some in (
      found.0,
      found.0,
      subst (λ (e : ℕ). IsLocated e (entry c.args.values.now)
          (numbers (take (c.in-Some.l.degree + 1) c.in-Some.l.coefs)) found.0 found.0) (sym c.e-e.ensures.value)
          (located c.args.params.now.e c.args.params.now.n (entry c.args.values.now) c.in-Some.l.coefs
          c.in-Some.l.degree found.0 c.n-n.ensures.range.1 found.1 found.2),
    )

pub returns-else-l-repair-clause-nearest : goal.returns-else-l-repair-clause-nearest
returns-else-l-repair-clause-nearest g c =
    let found = c.in-Some.ensures.some in
    fixed_is c.args.params.now.e c.args.params.now.n c.args.repair c.in-Some.l.degree (entry c.args.values.now)
    (numbers c.args.word.now) (numbers c.correct.new.word) found.0
    (length-numbers c.args.word.now ∙ c.requires.size) (AreElements-numbers c.args.word.now c.see_range.ensures)
    (λ k lt. sym (c.requires.syndromes k lt))
    found.1 found.2.places (omega arith)
    (c.correct.ensures found.0 found.0
    (subst (λ (e : ℕ). IsLocated e (entry c.args.values.now)
    (numbers (take (c.in-Some.l.degree + 1) c.in-Some.l.coefs)) found.0 found.0) (sym c.e-e.ensures.value)
    (located c.args.params.now.e c.args.params.now.n (entry c.args.values.now) c.in-Some.l.coefs c.in-Some.l.degree
    found.0 c.n-n.ensures.range.1 found.1 found.2))
    (found.1.size ∙ sym c.requires.size))

pub returns-in-None-clause-nearest : goal.returns-in-None-clause-nearest
returns-in-None-clause-nearest g c =
    beyond_none c.args.params.now.e c.args.params.now.n c.args.repair (entry c.args.values.now)
    (numbers c.args.word.now)
    (length-numbers c.args.word.now ∙ c.requires.size) (AreElements-numbers c.args.word.now c.see_range.ensures)
    (λ k lt. sym (c.requires.syndromes k lt))
    c.in-None.ensures.none c.requires.bound
