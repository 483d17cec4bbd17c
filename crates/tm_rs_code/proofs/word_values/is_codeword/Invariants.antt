use Rattle.std.proofs.Common.{◌≡◌, ◌<◌, ℕ}
use Rattle.tm_gf256.specs.Poly.{numbers, value_at}
use Rattle.tm_rs_code.specs.Code.{root}
use Rattle.tm_rs_code.proofs.word_values.is_codeword.Given as goal

abbrev pub invariant-loop-k : goal.invariant-loop-k
invariant-loop-k l = (j : ℕ) → j < l.k → value_at (numbers l.word) (root l.e j) ≡ 0
