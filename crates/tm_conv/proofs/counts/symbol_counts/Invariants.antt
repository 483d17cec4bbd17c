use Rattle.std.proofs.Common.{◌≡◌, ◌+◌, ◌<◌, drop}
use Rattle.tm_conv.specs.Path.{path, registers, steps_size}
use Rattle.tm_conv.specs.Counts.{AreFew, added, counts_of, distances}
use Rattle.tm_conv.proofs.counts.symbol_counts.Given as goal

abbrev pub invariant-loop-i : goal.invariant-loop-i
invariant-loop-i l = record {
  register : l.now < registers;
  place : l.place ≡ steps_size l.rate l.t l.i;
  few : AreFew l.place l.counts;
  sum : added l.counts (distances (path l.rate l.invert (l.t + l.i) l.now (drop l.i l.bits)) (drop l.place l.octets))
      ≡ counts_of (path l.rate l.invert l.t l.register l.bits) l.octets;
}
