use Rattle.std.proofs.Common.{◌≡◌, ◌*◌, length, take}
use Rattle.tm_cert_file.specs.Window.{column_octets}
use Rattle.tm_cert_file.proofs.numbers.column_octets.Given as goal

abbrev pub invariant-loop-s : goal.invariant-loop-s
invariant-loop-s l = record {
  long : length l.octets ≡ 256;
  prefix : take (4 * l.s) l.octets ≡ column_octets (take l.s l.column);
}
