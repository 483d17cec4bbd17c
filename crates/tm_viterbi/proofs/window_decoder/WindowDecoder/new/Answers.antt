use Rattle.std.proofs.Common.{arith}
use Rattle.tm_viterbi.proofs.window_decoder.WindowDecoder.new.Goals as goal

pub invariant_of-result : goal.invariant_of-result
invariant_of-result c = (
  c.in_ok-pass.ensures.overlap c.args.shape.rate c.args.shape.invert,
  c.in_ok-pass.ensures.room,
  omega (arith, c.requires),
)
