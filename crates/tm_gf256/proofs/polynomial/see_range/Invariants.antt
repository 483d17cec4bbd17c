use Rattle.std.proofs.Common.{◌<◌, ℕ}
use Rattle.tm_gf256.specs.Poly.{entry}
use Rattle.tm_gf256.proofs.polynomial.see_range.Given as goal

abbrev pub invariant-loop-c : goal.invariant-loop-c
invariant-loop-c l = (k : ℕ) → k < l.c-index → entry l.word k < 256
