use Rattle.std.proofs.Common.{◌≡◌, ◌<◌, ◌≤◌, ◌+◌, ◌*◌, ◌%◌, take}
use Rattle.tm_conv.specs.Path.{path, period, register_after}
use Rattle.tm_conv.specs.Encoding.{levels}
use Rattle.tm_conv.proofs.OctetPaths.{octet_bits}
use Rattle.tm_conv.proofs.octets.encode_from.Given as goal

abbrev pub invariant-loop-octet : goal.invariant-loop-octet
invariant-loop-octet l = record {
  register : l.register ≡ register_after l.first_register (octet_bits (take l.octet-index l.octets));
  low : l.register < 64;
  position : l.position ≡ (l.first_position + 8 * l.octet-index) % period l.rate;
  within : l.position < period l.rate;
  count : l.count ≤ 16 * l.octet-index;
  done : take l.count l.out
      ≡ levels l.fn.low (path l.rate l.invert l.first_position l.first_register
      (octet_bits (take l.octet-index l.octets)));
}
