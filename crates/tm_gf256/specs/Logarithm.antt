-- Logarithms, with a place for 0, which has none.
use Rattle.std.specs.Prelude.{◌≡◌, ◌≢◌, ◌<◌, ℕ}
use Rattle.tm_gf256.specs.Field.{group_order, power}

-- what stands for the logarithm of 0: at it and after it the powers in the table are 0
abbrev pub log_of_zero : ℕ
log_of_zero = 510

-- log is the power of alpha that a is, below the group's order, or what stands for it where a is 0
pub record IsLogarithm (log a : ℕ) : Type 0 where
  pub of_zero : a ≡ 0 → log ≡ log_of_zero
  pub small : a ≢ 0 → log < group_order
  pub undoes : a ≢ 0 → power 2 log ≡ a
