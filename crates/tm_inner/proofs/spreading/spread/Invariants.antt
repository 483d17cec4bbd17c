use Rattle.std.proofs.Common.{◌≡◌, ◌*◌, length, take}
use Rattle.tm_inner.specs.Sending.{spread}
use Rattle.tm_inner.proofs.spreading.spread.Given as goal

abbrev pub invariant-loop-k : goal.invariant-loop-k
invariant-loop-k l = record {
  long : length l.room ≡ length l.fn.room;
  prefix : take (8 * l.k) l.room ≡ spread l.low (take l.k l.octets);
}
