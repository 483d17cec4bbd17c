use Rattle.std.proofs.Common.{◌≡◌, ◌≤◌, ◌+◌, ◌-◌, ◌*◌, length, take}
use Rattle.tm_conv.specs.Path.{steps_size}
use Rattle.tm_viterbi.specs.Totals.{AreAtMost}
use Rattle.tm_viterbi.specs.Carries.{Carries}
use Rattle.tm_viterbi.proofs.forward_pass.run.Given as goal

abbrev pub invariant-loop-done : goal.invariant-loop-done
invariant-loop-done l = record {
  within : l.done ≤ length l.survivors;
  place : l.at ≡ steps_size l.rate l.t l.done;
  bounded : AreAtMost (l.most + 510 * l.done) l.sums;
  carries : Carries l.rate l.invert l.t (take l.at l.soft) l.initial.sums l.sums (take l.done l.survivors);
}

abbrev pub decreases-loop-done : goal.decreases-loop-done
decreases-loop-done l = length l.survivors - l.done
