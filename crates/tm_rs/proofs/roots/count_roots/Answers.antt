use Rattle.std.proofs.Common.{ℕ, length, arith, ap, sym, ◌∙◌, add-one}
use Rattle.tm_rs_code.specs.Pattern.{roots_below}
use Rattle.tm_rs.proofs.Endings.{one_more_root, no_more_root}
use Rattle.tm_rs.proofs.roots.count_roots.Goals as goal
use Rattle.tm_rs.proofs.roots.count_roots.Goals.{then-values-p-eq0, else-values-p-eq0}

pub loop-p-preserved : goal.loop-p-preserved
loop-p-preserved c =
    elim c.if-values-p-eq0.branch [
      | then-values-p-eq0 w ↦ record {
        counted = λ poly are. omega (
          arith,
          c.loop-p.invariant.counted poly are,
          ap (λ (n : ℕ). length (roots_below poly n)) (add-one c.loop-p.p),
          one_more_root poly c.loop-p.p (sym (are c.loop-p.p (omega arith)) ∙ w.if-values-p-eq0.true),
        );
        few = omega (arith, c.loop-p.invariant.few);
      }
      | else-values-p-eq0 w ↦ record {
        counted = λ poly are. omega (
          arith,
          c.loop-p.invariant.counted poly are,
          ap (λ (n : ℕ). length (roots_below poly n)) (add-one c.loop-p.p),
          no_more_root poly c.loop-p.p (λ e. w.if-values-p-eq0.false (are c.loop-p.p (omega arith) ∙ e)),
        );
        few = omega (arith, c.loop-p.invariant.few);
      }
    ]
