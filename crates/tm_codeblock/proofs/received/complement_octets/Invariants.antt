use Rattle.std.proofs.Common.{◌≡◌, ◌<◌, ◌≤◌, ◌-◌, ℕ, get_or}
use Rattle.tm_codeblock.proofs.received.complement_octets.Given as goal

abbrev pub invariant-loop-k : goal.invariant-loop-k
invariant-loop-k l = record {
  done : (n : ℕ) → n < l.k → get_or l.octets n 0 ≡ 255 - get_or l.initial.octets n 0;
  rest : (n : ℕ) → l.k ≤ n → get_or l.octets n 0 ≡ get_or l.initial.octets n 0;
}
