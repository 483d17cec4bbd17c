use Rattle.std.proofs.Common.{◌≡◌, ◌==◌, Bool, true, false, refl, arith}
use Rattle.std.specs.Int.{from_bool}
use Rattle.tmchan_c.proofs.search.state.Goals as goal

is_one : (b : Bool) → (from_bool b == 1) ≡ b
is_one true = refl
is_one false = refl

pub returns-clause-paused : goal.returns-clause-paused
returns-clause-paused c = grind (arith, is_one)
