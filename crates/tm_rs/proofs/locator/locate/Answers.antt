use Rattle.std.proofs.Common.{◌+◌, ◌*◌, ℕ, take, arith, sym, ◌∙◌, ap, subst}
use Rattle.tm_gf256.specs.Poly.{entry, numbers}
use Rattle.tm_rs_code.specs.PlaceValues.{AreValues}
use Rattle.tm_rs.specs.State.{IsShortest, Unexplained}
use Rattle.tm_rs.proofs.Endings.{no_pattern, no_pattern_at_end, locates_at_end, elements_of, same_roots}
use Rattle.tm_rs.proofs.locator.locate.Goals as goal

pub returns-in_default-clause-none : goal.returns-in_default-clause-none
returns-in_default-clause-none g c =
    no_pattern c.args.params.now.e c.args.params.now.n (entry c.args.syndromes.now)
    (subst (λ (k : ℕ). Unexplained k (entry c.args.syndromes.now))
    (ap (λ (e : ℕ). 2 * e) c.e.ensures.value) c.in_default.ensures.none) (c.n-n.ensures.range.1)

pub returns-then-count_roots-found-clause-none : goal.returns-then-count_roots-found-clause-none
returns-then-count_roots-found-clause-none g c =
    no_pattern_at_end c.args.params.now.e c.args.params.now.n
    (entry c.args.syndromes.now) c.in-Some.found.current c.in-Some.found.len
    (subst (λ (k : ℕ). IsShortest k (entry c.args.syndromes.now) (entry c.in-Some.found.current) c.in-Some.found.len)
    (ap (λ (e : ℕ). 2 * e) c.e.ensures.value) c.in-Some.ensures.some)
    (c.n-n.ensures.range.1) c.in-Some.ensures.room (omega arith)
    (λ e. c.if-count_roots-found.true
    (c.count_roots.ensures (numbers (take (c.in-Some.found.len + 1) c.in-Some.found.current))
    c.values_at_places-at_places.ensures.values
    ∙ same_roots c.in-Some.found.current c.in-Some.found.len c.n-n.result c.args.params.now.n c.n-n.ensures.value
    ∙ e))

pub returns-clause-some : goal.returns-clause-some
returns-clause-some g c =
    locates_at_end c.args.params.now.e c.args.params.now.n (entry c.args.syndromes.now) c.in-Some.found.current
    c.in-Some.found.len
    (subst (λ (k : ℕ). IsShortest k (entry c.args.syndromes.now) (entry c.in-Some.found.current) c.in-Some.found.len)
    (ap (λ (e : ℕ). 2 * e) c.e.ensures.value) c.in-Some.ensures.some)
    (c.n-n.ensures.range.1) c.in-Some.ensures.room (omega arith) (elements_of c.args.syndromes.now c.see_range.ensures)
    (sym (same_roots c.in-Some.found.current c.in-Some.found.len c.n-n.result c.args.params.now.n c.n-n.ensures.value)
    ∙ sym (c.count_roots.ensures
    (numbers (take (c.in-Some.found.len + 1) c.in-Some.found.current))
    c.values_at_places-at_places.ensures.values) ∙ c.if-count_roots-found.false)

pub returns-clause-values : goal.returns-clause-values
returns-clause-values g c =
    subst (λ (n : ℕ). AreValues (numbers (take (c.in-Some.found.len + 1) c.in-Some.found.current)) n
    c.values_at_places-at_places.result) c.n-n.ensures.value c.values_at_places-at_places.ensures.values
