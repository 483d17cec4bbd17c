use Rattle.std.proofs.Common.{◌≡◌, ◌<◌, drop}
use Rattle.tm_conv.specs.Path.{register_after}
use Rattle.tm_viterbi.proofs.traceback.end_register.Given as goal

abbrev pub invariant-loop-b : goal.invariant-loop-b
invariant-loop-b l = record {
  small : l.register < 64;
  rest : register_after l.register (drop l.b-index l.last_six) ≡ register_after l.first l.last_six;
}
