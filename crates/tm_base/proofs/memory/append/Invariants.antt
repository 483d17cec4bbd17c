use Rattle.std.proofs.Common.{◌≡◌, ◌≤◌, ◌++◌, take, vec_capacity}
use Rattle.tm_base.proofs.memory.append.Given as goal

abbrev pub invariant-loop-octet : goal.invariant-loop-octet
invariant-loop-octet l = record {
  items : l.octets.items ≡ l.initial.octets.items ++ take l.octet-index l.piece;
  capacity : vec_capacity l.initial.octets ≤ vec_capacity l.octets;
}
