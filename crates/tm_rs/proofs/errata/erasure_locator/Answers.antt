use Rattle.std.proofs.Common.{◌+◌, ◌-◌, length, drop, arith, ap, sym, ◌∙◌, refl, true, false}
use Rattle.tm_gf256.specs.Poly.{entry}
use Rattle.tm_rs_code.specs.Erasures.{count_erased, marks}
use Rattle.tm_rs.proofs.Erasures.{product_start, product_more, product_same, marks_next, count_next, length_next, degree_below, cost_as, cost_more, none_dropped, product_as}
use Rattle.tm_rs.proofs.Starts.{start, start_beyond}
use Rattle.tm_rs.proofs.errata.erasure_locator.Goals as goal
use Rattle.tm_rs.proofs.errata.erasure_locator.Goals.{then-erased-n, else-erased-n}

pub loop-p-init : goal.loop-p-init
loop-p-init g c = record {
  product =
      product_start (entry start) refl start_beyond (marks (drop (length c.args.erased.now - 0) c.args.erased.now))
      (ap marks (none_dropped c.args.erased.now));
  counted = sym (ap count_erased (none_dropped c.args.erased.now));
  room = refl;
  cost = omega arith;
}

pub overflow_add-degree : goal.overflow_add-degree
overflow_add-degree g c =
    omega (
      arith,
      degree_below c.args.erased.now c.loop-p.p c.loop-p.degree c.args.count
          (omega arith) c.loop-p.invariant.counted c.requires.counted c.if-erased-n.true,
    )

pub times_factor-requires : goal.times_factor-requires
times_factor-requires g c =
    omega (
      arith,
      degree_below c.args.erased.now c.loop-p.p c.loop-p.degree c.args.count
          (omega arith) c.loop-p.invariant.counted c.requires.counted c.if-erased-n.true,
    )

pub loop-p-preserved : goal.loop-p-preserved
loop-p-preserved g c =
    elim c.if-erased-n.branch [
      | then-erased-n w ↦ record {
        product = product_as c.if-erased-n.coefs w.times_factor.new.coefs c.if-erased-n.degree (c.loop-p.degree + 1)
            (marks (drop (length c.args.erased.now - (c.loop-p.p + 1)) c.args.erased.now)) w.coefs-is w.degree-is
            (product_more (entry c.loop-p.coefs) (entry w.times_factor.new.coefs) c.loop-p.degree w.exp.result.0
            c.loop-p.p
            (marks (drop (length c.args.erased.now - c.loop-p.p) c.args.erased.now))
            (marks (drop (length c.args.erased.now - (c.loop-p.p + 1)) c.args.erased.now))
            c.loop-p.invariant.product w.exp.ensures (length_next c.args.erased.now c.loop-p.p (omega arith))
            (marks_next c.args.erased.now c.loop-p.p true (omega arith) w.if-erased-n.true)
            w.times_factor.ensures.factor w.times_factor.ensures.rest);
        counted =
            omega (
              arith,
              w.degree-is,
              c.loop-p.invariant.counted,
              count_next c.args.erased.now c.loop-p.p true (omega arith) w.if-erased-n.true,
            );
        room = ap length w.coefs-is ∙ w.times_factor.ensures.room;
        cost =
            cost_as c.if-erased-n.steps w.times_factor.new.steps c.args.steps.now c.if-erased-n.degree
            (c.loop-p.degree + 1) w.steps-is w.degree-is
            (cost_more c.loop-p.steps w.times_factor.new.steps c.args.steps.now c.loop-p.degree
            c.loop-p.invariant.cost w.times_factor.ensures.cost);
      }
      | else-erased-n w ↦ record {
        product = product_as c.if-erased-n.coefs c.loop-p.coefs c.if-erased-n.degree c.loop-p.degree
            (marks (drop (length c.args.erased.now - (c.loop-p.p + 1)) c.args.erased.now)) w.coefs-is w.degree-is
            (product_same (entry c.loop-p.coefs) c.loop-p.degree
            (marks (drop (length c.args.erased.now - c.loop-p.p) c.args.erased.now))
            (marks (drop (length c.args.erased.now - (c.loop-p.p + 1)) c.args.erased.now))
            c.loop-p.invariant.product (marks_next c.args.erased.now c.loop-p.p false
            (omega arith) w.if-erased-n.false));
        counted =
            omega (
              arith,
              w.degree-is,
              c.loop-p.invariant.counted,
              count_next c.args.erased.now c.loop-p.p false (omega arith) w.if-erased-n.false,
            );
        room = ap length w.coefs-is ∙ c.loop-p.invariant.room;
        cost =
            cost_as c.if-erased-n.steps c.loop-p.steps c.args.steps.now c.if-erased-n.degree c.loop-p.degree
            w.steps-is w.degree-is c.loop-p.invariant.cost;
      }
    ]
