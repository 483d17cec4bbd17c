use Rattle.std.proofs.Common.{◌≡◌, drop}
use Rattle.tm_cert_file.specs.Seen.{are_bits}
use Rattle.tm_cert_file.proofs.judging.are_bits.Given as goal

abbrev pub invariant-loop-bit : goal.invariant-loop-bit
invariant-loop-bit l = are_bits l.bits ≡ are_bits (drop l.bit-index l.bits)
