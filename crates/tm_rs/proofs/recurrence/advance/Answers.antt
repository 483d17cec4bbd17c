use Rattle.std.proofs.Common.{◌≡◌, ◌<◌, ◌+◌, ◌-◌, ◌/◌, ℕ, suc, arith, sym, subst}
use Rattle.tm_gf256.specs.Poly.{entry}
use Rattle.tm_rs_code.specs.Recurrence.{discrepancy, patched}
use Rattle.tm_rs_code.proofs.Recurrence.{discrepancy-lt}
use Rattle.tm_rs.proofs.Transitions.{stays, grows, too_many, arrayed, zeros_after, quotient_is}
use Rattle.tm_rs.proofs.recurrence.advance.Goals as goal

below_256 : (c s : ℕ → ℕ) (k j f : ℕ) → f ≡ discrepancy c s k j → f < 256
below_256 c s k j f e = subst (λ (y : ℕ). y < 256) (sym e) (discrepancy-lt c s k j)

pub returns-then-k-state-clause-held : goal.returns-then-k-state-clause-held
returns-then-k-state-clause-held g c =
    let st = c.args.state.now in
    arrayed c.args.count (entry c.args.terms.now) (patched (entry c.args.state.now.current) c.product-q.result.0
    c.args.state.now.gap (entry c.args.state.now.previous)) (entry c.args.state.now.previous)
    c.args.state.now.len (c.args.state.now.gap + 1) c.args.state.now.scale.0 (c.args.k + 1)
    (c.args.count / 2 + 1) c.args.state.now.current c.patch.new.coefs (omega arith)
    c.patch.ensures.patched c.patch.ensures.rest
    (zeros_after c.args.count (entry c.args.terms.now) (entry c.args.state.now.current)
    (entry c.args.state.now.previous) c.args.state.now.len c.args.state.now.gap c.args.state.now.scale.0 c.args.k
    (c.args.count / 2 + 1) (omega arith) c.requires.held)
    (stays c.args.count (entry c.args.terms.now) (entry c.args.state.now.current)
    (entry c.args.state.now.previous) c.args.state.now.len c.args.state.now.gap c.args.state.now.scale.0 c.args.k
    c.mismatch-failure.result.0 c.product-q.result.0 c.requires.held (sym c.mismatch-failure.ensures.value)
    (quotient_is c.mismatch-failure.result.0 c.args.state.now.scale.0 c.product-q.result.0 c.inv.result.0
    (below_256 (entry c.args.state.now.current) (entry c.args.terms.now) c.args.k
    (suc c.args.state.now.len) c.mismatch-failure.result.0 c.mismatch-failure.ensures.value) c.inv.ensures.undoes
    c.product-q.ensures.value)
    (omega arith))

pub returns-then-len-count-clause-none : goal.returns-then-len-count-clause-none
returns-then-len-count-clause-none g c =
    too_many c.args.count (entry c.args.terms.now) (entry c.args.state.now.current)
    (entry c.args.state.now.previous) c.args.state.now.len c.args.state.now.gap c.args.state.now.scale.0 c.args.k
    c.mismatch-failure.result.0 c.requires.held c.requires.given
    (sym c.mismatch-failure.ensures.value) c.if-failure-eq0.false (omega arith)

pub returns-clause-held : goal.returns-clause-held
returns-clause-held g c =
    arrayed c.args.count (entry c.args.terms.now) (patched (entry c.args.state.now.current) c.product-q.result.0
    c.args.state.now.gap (entry c.args.state.now.previous)) (entry c.args.state.now.current)
    (c.args.k + 1 - c.args.state.now.len) 1 c.mismatch-failure.result.0 (c.args.k + 1)
    (c.args.count / 2 + 1) c.args.state.now.current c.patch-2.new.coefs (omega arith)
    c.patch-2.ensures.patched c.patch-2.ensures.rest
    (zeros_after c.args.count (entry c.args.terms.now) (entry c.args.state.now.current)
    (entry c.args.state.now.previous) c.args.state.now.len c.args.state.now.gap c.args.state.now.scale.0 c.args.k
    (c.args.count / 2 + 1) (omega arith) c.requires.held)
    (grows c.args.count (entry c.args.terms.now) (entry c.args.state.now.current)
    (entry c.args.state.now.previous) c.args.state.now.len c.args.state.now.gap c.args.state.now.scale.0 c.args.k
    c.mismatch-failure.result.0 c.product-q.result.0 c.requires.held c.requires.given
    (sym c.mismatch-failure.ensures.value) c.if-failure-eq0.false
    (quotient_is c.mismatch-failure.result.0 c.args.state.now.scale.0 c.product-q.result.0 c.inv.result.0
    (below_256 (entry c.args.state.now.current) (entry c.args.terms.now) c.args.k
    (suc c.args.state.now.len) c.mismatch-failure.result.0 c.mismatch-failure.ensures.value) c.inv.ensures.undoes
    c.product-q.ensures.value)
    (omega arith) (omega arith))
