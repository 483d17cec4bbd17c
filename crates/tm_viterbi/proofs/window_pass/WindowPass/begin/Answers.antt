use Rattle.std.proofs.Common.{◌≡◌, ◌≤◌, ◌^◌, Bool, true, false, cond, arith, sym}
use Rattle.tm_conv.proofs.Paths.{steps_size-zero}
use Rattle.tm_viterbi.specs.Starts.{starts_from}
use Rattle.tm_viterbi.proofs.Carrying.{Carries-none}
use Rattle.tm_viterbi.proofs.window_pass.WindowPass.begin.Goals as goal

small : (b : Bool) → cond b 0 (2 ^ 30) ≤ 2 ^ 30
small true = omega arith
small false = omega arith

pub returns-clause-overlap : goal.returns-clause-overlap
returns-clause-overlap c rate invert = record {
  steps = omega arith;
  octets = omega arith;
  size = sym (steps_size-zero rate c.args.t);
  bounded = λ s lt. omega (arith, small (starts_from c.args.starts s), c.first_sums-sums.ensures s lt);
  carries = Carries-none rate invert c.args.t c.first_sums-sums.result;
}
