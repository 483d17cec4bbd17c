use Rattle.std.proofs.Common.{◌≡◌, ℕ, get_or, eqb, not, ◌&&◌, ◌+◌, ◌-◌, ◌*◌, List, length, drop, arith, ap, sym, ◌∙◌, false, true, Bool}
use Rattle.tm_gf256.specs.Poly.{entry, numbers, value_at}
use Rattle.tm_rs_code.specs.Code.{place_of}
use Rattle.tm_rs_code.specs.Erasures.{marks}
use Rattle.tm_rs_code.specs.Pattern.{locator_of, times_linear}
use Rattle.tm_rs.proofs.Products.{listed_as, listed_more}
use Rattle.tm_rs.proofs.Named.{cost_as, cost_more, degree_other, is_other, named-with, no_roots, roots, roots_next, weight-named, with_next, with_none, with_roots}
use Rattle.tm_rs.proofs.erased_word.all_places.Goals as goal
use Rattle.tm_rs.proofs.erased_word.all_places.Goals.{then-names_other, else-names_other}

-- by the value that was found there
at_value : (g : List ℕ) (f : Bool) (p v : ℕ) (b : Bool) → v ≡ value_at g (place_of p) → b ≡ (not f && eqb v 0)
    → (not f && eqb (value_at g (place_of p)) 0) ≡ b
at_value g f p v b e is = sym (is ∙ ap (λ (y : ℕ). not f && eqb y 0) e)

pub loop-p-init : goal.loop-p-init
loop-p-init g c = record {
  product =
      record {
        listed = c.requires.erasures
            ∙ sym (with_none (numbers c.args.poly.now) c.args.erased.now (locator_of (marks c.args.erased.now)));
        beyond =
            c.requires.beyond;
      };
  counted = omega (arith, no_roots (numbers c.args.poly.now) c.args.erased.now);
  room = c.told-erasures;
  cost = omega arith;
}

pub times_factor-requires : goal.times_factor-requires
times_factor-requires g c =
    omega (
      arith,
      c.requires.few,
      degree_other (numbers c.args.poly.now) c.args.erased.now c.loop-p.p c.loop-p.degree
          c.args.count (omega arith) c.requires.count c.loop-p.invariant.counted
          (at_value (numbers c.args.poly.now)
          (get_or c.args.erased.now (length c.args.erased.now - 1 - c.loop-p.p) false) c.loop-p.p
          (get_or c.values_at_places-values.result c.loop-p.p 0) c.names_other.result
          (c.values_at_places-values.ensures.values c.loop-p.p (omega arith)) c.names_other.ensures
          ∙ c.if-names_other.true),
    )

pub overflow_add-degree : goal.overflow_add-degree
overflow_add-degree g c =
    omega (
      arith,
      c.requires.few,
      degree_other (numbers c.args.poly.now) c.args.erased.now c.loop-p.p c.loop-p.degree
          c.args.count (omega arith) c.requires.count c.loop-p.invariant.counted
          (at_value (numbers c.args.poly.now)
          (get_or c.args.erased.now (length c.args.erased.now - 1 - c.loop-p.p) false) c.loop-p.p
          (get_or c.values_at_places-values.result c.loop-p.p 0) c.names_other.result
          (c.values_at_places-values.ensures.values c.loop-p.p (omega arith)) c.names_other.ensures
          ∙ c.if-names_other.true),
    )

pub loop-p-preserved : goal.loop-p-preserved
unfolding place_of
loop-p-preserved g c =
    let poly : List ℕ = numbers c.args.poly.now in
    let base : List ℕ = locator_of (marks c.args.erased.now) in
    let named : is_other poly c.args.erased.now c.loop-p.p ≡ c.names_other.result =
    at_value poly (get_or c.args.erased.now (length c.args.erased.now - 1 - c.loop-p.p) false) c.loop-p.p
    (get_or c.values_at_places-values.result c.loop-p.p 0) c.names_other.result
    (c.values_at_places-values.ensures.values c.loop-p.p (omega arith)) c.names_other.ensures in
    elim c.if-names_other.branch [
      | then-names_other w ↦ record {
        product =
            listed_as c.if-names_other.coefs w.times_factor.new.coefs c.if-names_other.degree (c.loop-p.degree + 1)
            (with_roots poly (drop (length c.args.erased.now - (c.loop-p.p + 1)) c.args.erased.now) base)
            (times_linear w.exp.result.0 (with_roots poly (drop
            (length c.args.erased.now - c.loop-p.p) c.args.erased.now) base)) w.coefs-is w.degree-is
            (with_next poly c.args.erased.now c.loop-p.p true base (omega arith) (named ∙ w.if-names_other.true)
            ∙ ap (λ x. times_linear x (with_roots poly (drop
            (length c.args.erased.now - c.loop-p.p) c.args.erased.now) base)) (sym w.exp.ensures))
            (listed_more (entry c.loop-p.coefs) (entry w.times_factor.new.coefs) c.loop-p.degree w.exp.result.0
            (with_roots poly (drop (length c.args.erased.now - c.loop-p.p) c.args.erased.now) base)
            c.loop-p.invariant.product w.times_factor.ensures.factor w.times_factor.ensures.rest);
        counted =
            omega (
              arith,
              w.degree-is,
              c.loop-p.invariant.counted,
              roots_next poly c.args.erased.now c.loop-p.p true (omega arith) (named ∙ w.if-names_other.true),
            );
        room = ap length w.coefs-is ∙ w.times_factor.ensures.room;
        cost =
            cost_as c.if-names_other.steps w.times_factor.new.steps c.args.steps.now
            (c.args.count * (c.args.count + 1)) c.if-names_other.degree (c.loop-p.degree + 1) w.steps-is w.degree-is
            (cost_more c.loop-p.steps w.times_factor.new.steps c.args.steps.now
            (c.args.count * (c.args.count + 1)) c.loop-p.degree c.loop-p.invariant.cost
            w.times_factor.ensures.cost);
      }
      | else-names_other w ↦ record {
        product = listed_as c.if-names_other.coefs c.loop-p.coefs c.if-names_other.degree c.loop-p.degree
            (with_roots poly (drop (length c.args.erased.now - (c.loop-p.p + 1)) c.args.erased.now) base)
            (with_roots poly (drop (length c.args.erased.now - c.loop-p.p) c.args.erased.now) base) w.coefs-is
            w.degree-is
            (with_next poly c.args.erased.now c.loop-p.p false base (omega arith) (named ∙ w.if-names_other.false))
            c.loop-p.invariant.product;
        counted =
            omega (
              arith,
              w.degree-is,
              c.loop-p.invariant.counted,
              roots_next poly c.args.erased.now c.loop-p.p false (omega arith) (named ∙ w.if-names_other.false),
            );
        room = ap length w.coefs-is ∙ c.loop-p.invariant.room;
        cost =
            cost_as c.if-names_other.steps c.loop-p.steps c.args.steps.now
            (c.args.count * (c.args.count + 1)) c.if-names_other.degree c.loop-p.degree w.steps-is w.degree-is
            c.loop-p.invariant.cost;
      }
    ]

-- all flags
whole : (fs : List Bool) (p : ℕ) → length fs - p ≡ 0 → drop (length fs - p) fs ≡ fs
whole fs p e = ap (λ (j : ℕ). drop j fs) e

pub returns-clause-degree : goal.returns-clause-degree
returns-clause-degree g c =
    omega (
      arith,
      c.requires.count,
      c.loop-p.invariant.counted,
      weight-named (numbers c.args.poly.now) c.args.erased.now,
      ap (roots (numbers c.args.poly.now)) (whole c.args.erased.now c.loop-p.p (omega arith)),
    )

pub returns-clause-locator : goal.returns-clause-locator
returns-clause-locator g c =
    c.loop-p.invariant.product.listed ∙ ap (λ (l : List Bool). with_roots (numbers c.args.poly.now) l
    (locator_of (marks c.args.erased.now))) (whole c.args.erased.now c.loop-p.p (omega arith))
    ∙ sym (named-with (numbers c.args.poly.now) c.args.erased.now)
