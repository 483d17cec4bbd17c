use Rattle.std.proofs.Common.{arith}
use Rattle.tm_conv.proofs.Paths.{steps_size-zero}
use Rattle.tm_windows.proofs.queue.whole_steps.Goals as goal

pub loop-above-init : goal.loop-above-init
loop-above-init c = record {
  order = omega arith;
  limit = omega arith;
  whole = omega (arith, steps_size-zero c.args.rate c.args.t);
  most = λ le. absurd (omega (arith, le));
}
