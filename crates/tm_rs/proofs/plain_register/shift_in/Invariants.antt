use Rattle.std.proofs.Common.{◌≡◌, ◌<◌, ◌≤◌, ℕ, suc, get_or}
use Rattle.std.specs.Prelude.{bit_xor}
use Rattle.tm_gf256.specs.Field.{times}
use Rattle.tm_gf256.specs.Poly.{entry}
use Rattle.tm_rs.proofs.plain_register.shift_in.Given as goal

abbrev pub invariant-loop-i : goal.invariant-loop-i
invariant-loop-i l = record {
  done : (j : ℕ) → j < l.i → entry l.register j ≡ bit_xor (entry l.initial.register (suc j))
      (times l.factor.0 (get_or l.generator j 0));
  left : (j : ℕ) → l.i ≤ j → entry l.register j ≡ entry l.initial.register j;
}
