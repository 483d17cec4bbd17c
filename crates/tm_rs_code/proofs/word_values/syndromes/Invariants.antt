use Rattle.std.proofs.Common.{◌≡◌, ◌<◌, ◌≤◌, ℕ, length}
use Rattle.tm_gf256.specs.Poly.{entry, numbers, value_at}
use Rattle.tm_rs_code.specs.Code.{root}
use Rattle.tm_rs_code.proofs.word_values.syndromes.Given as goal

abbrev pub invariant-loop-k : goal.invariant-loop-k
invariant-loop-k l = record {
  size : length l.values ≡ 32;
  values : (j : ℕ) → j < l.k → entry l.values j ≡ value_at (numbers l.word) (root l.e j);
  rest : (j : ℕ) → l.k ≤ j → entry l.values j ≡ 0;
}
