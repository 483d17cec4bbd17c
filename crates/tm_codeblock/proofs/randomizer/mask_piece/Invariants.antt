use Rattle.std.proofs.Common.{◌≡◌, ◌<◌, ◌≤◌, ℕ, get_or, bit_xor}
use Rattle.tm_codeblock.specs.declared.randomizer.TheConstants.{SEQUENCE}
use Rattle.tm_codeblock.proofs.randomizer.mask_piece.Given as goal

abbrev pub invariant-loop-k : goal.invariant-loop-k
invariant-loop-k l = record {
  done : (n : ℕ) → n < l.k → get_or l.piece n 0 ≡ bit_xor (get_or l.initial.piece n 0) (get_or SEQUENCE n 0);
  rest : (n : ℕ) → l.k ≤ n → get_or l.piece n 0 ≡ get_or l.initial.piece n 0;
}
