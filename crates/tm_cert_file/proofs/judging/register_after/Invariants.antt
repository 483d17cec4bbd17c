use Rattle.std.proofs.Common.{◌≡◌, ◌<◌, drop}
use Rattle.tm_conv.specs.Path.{register_after}
use Rattle.tm_cert_file.proofs.judging.register_after.Given as goal

abbrev pub invariant-loop-bit : goal.invariant-loop-bit
invariant-loop-bit l = record {
  small : l.register < 64;
  rest : register_after l.register (drop l.bit-index l.bits) ≡ register_after l.start l.bits;
}
