use Rattle.std.proofs.Common.{◌≡◌, length, take}
use Rattle.tm_cert_file.specs.Window.{numbers_in}
use Rattle.tm_cert_file.proofs.numbers.read_column.Given as goal

abbrev pub invariant-loop-s : goal.invariant-loop-s
invariant-loop-s l = record {
  long : length l.column ≡ 64;
  prefix : take l.s l.column ≡ numbers_in l.s l.octets;
}
