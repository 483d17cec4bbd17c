use Rattle.std.proofs.Common.{arith, ◌∙◌, ap, ◌+◌, ℕ}
use Rattle.tm_rs_code.proofs.Numbers.{distance_same, distance_differs}
use Rattle.tm_rs_code.proofs.word_values.distance.Goals.{then-number, else-number}
use Rattle.tm_rs_code.proofs.word_values.distance.Goals as goal

pub loop-i-preserved : goal.loop-i-preserved
loop-i-preserved c =
    elim c.if-number.branch [
      | then-number w ↦ record {
        counted =
            w.count-is ∙ ap (λ (n : ℕ). n + 1) c.loop-i.invariant.counted
            ∙ distance_differs c.args.a.now c.args.b.now c.loop-i.i c.number.result c.number-in-loop-i.result
            c.loop-i-test.true c.requires.same c.number.ensures.value
            c.number-in-loop-i.ensures.value w.if-number.true;
        few = omega (arith, w.count-is);
      }
      | else-number w ↦ record {
        counted =
            w.count-is ∙ c.loop-i.invariant.counted
            ∙ distance_same c.args.a.now c.args.b.now c.loop-i.i c.number.result c.number-in-loop-i.result
            c.loop-i-test.true c.requires.same c.number.ensures.value
            c.number-in-loop-i.ensures.value w.if-number.false;
        few = omega (arith, w.count-is);
      }
    ]
