use Rattle.std.proofs.Common.{◌≡◌, ◌≤◌, ◌+◌, ◌*◌, ◌-◌, ◌++◌, ℕ, length, take}
use Rattle.tm_conv.specs.declared.rates.Rate.TheVariants.{R12}
use Rattle.tm_viterbi.specs.Totals.{AreAtMost}
use Rattle.tm_viterbi.specs.Carries.{Carries, lifted}
use Rattle.tm_viterbi.proofs.narrow_steps.narrow_half_rate.Given as goal

abbrev pub invariant-loop-i : goal.invariant-loop-i
invariant-loop-i l = record {
  within : l.i ≤ length l.survivors;
  bounded : (m : ℕ) → AreAtMost m (l.fn.first_low ++ l.fn.first_high) → AreAtMost (m + 510 * l.i) (l.low ++ l.high);
  long_low : length l.low ≡ 32;
  long_high : length l.high ≡ 32;
  carries : (base : ℕ) → Carries R12 l.invert l.t (take (2 * l.i) l.soft)
      (lifted base (l.fn.first_low ++ l.fn.first_high)) (lifted base (l.low ++ l.high)) (take l.i l.survivors);
}

abbrev pub decreases-loop-i : goal.decreases-loop-i
decreases-loop-i l = length l.survivors - l.i
