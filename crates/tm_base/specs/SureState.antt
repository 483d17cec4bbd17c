-- A source that never fails.
use Rattle.std.specs.Prelude.{Bool, List, ℕ}

-- what it has given, what it has left, and whether it has reported the end
pub record SureState : Type 0 where
  pub given : List ℕ
  pub left : List ℕ
  pub ended : Bool
