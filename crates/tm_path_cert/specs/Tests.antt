-- The tests of columns: that no path undercuts them, and that the last is no less than a metric.
use Rattle.std.specs.Prelude.{◌≡◌, ℕ, zero, suc, ◌+◌, ◌-◌, ◌<◌, ◌≤◌, List, [], length, slice_index, slice_index_or, IsTrue, Bool, Option, Some, None}
use Rattle.tm_conv.specs.Path.{next_register, registers}
use Rattle.tm_path_cert.specs.Claim.{Claim, is_start, edge_cost}

-- a register of a column costs no more than it does by any edge from the column before, where
-- `edge` is what an edge costs
abbrev pub IsLowEnough : (ℕ → ℕ → ℕ) → List ℕ → List ℕ → ℕ → Type 0
IsLowEnough edge before column register =
    (from bit : ℕ) → from < registers → bit < 2 → next_register from bit ≡ register
    → slice_index column register ≤ slice_index before from + edge from bit

-- a register that is a start has 0
abbrev pub StartsAt : (ℕ → Bool) → List ℕ → ℕ → Type 0
StartsAt starts column register = IsTrue (starts register) → slice_index column register ≡ 0

-- column t is right at a register: in the first column each start has 0, and in a later one no edge
-- undercuts it
abbrev pub HoldsAt : Claim → ℕ → List ℕ → List ℕ → ℕ → Type 0
HoldsAt claim zero before column register = StartsAt (is_start claim.starts) column register
HoldsAt claim (suc k) before column register =
    IsLowEnough (edge_cost claim k) before column register

-- the least of the 64 registers at which a test fails, or none
abbrev pub IsFirstFailing : (ℕ → Type 0) → Option ℕ → Type 0
IsFirstFailing Test None = (register : ℕ) → register < registers → Test register
IsFirstFailing Test (Some register) = (register < registers) × (Test register → ⊥)
    × ((other : ℕ) → other < register → Test other)

abbrev pub column_at : List (List ℕ) → ℕ → List ℕ
column_at columns t = slice_index_or columns t []

-- the same of a list of columns
abbrev pub Holds : Claim → List (List ℕ) → ℕ → ℕ → Type 0
Holds claim columns t register = HoldsAt claim t (column_at columns (t - 1))
    (column_at columns t) register

-- each column is right at each register
abbrev pub AllHold : Claim → List (List ℕ) → Type 0
AllHold claim columns = (t register : ℕ) → t < length columns → register < registers
    → Holds claim columns t register

-- the first column that is not right, and its least register
pub record IsFirstWrong (claim : Claim) (columns : List (List ℕ)) (t register : ℕ) : Type 0 where
  pub column : t < length columns
  pub below : register < registers
  pub wrong : Holds claim columns t register → ⊥
  pub columns_before : (u other : ℕ) → u < t → other < registers → Holds claim columns u other
  pub registers_before : (other : ℕ) → other < register → Holds claim columns t other

abbrev pub last_of : List (List ℕ) → List ℕ
last_of columns = column_at columns (length columns - 1)

-- each column is right, and the last is nowhere less than the metric
pub record Pass (claim : Claim) (columns : List (List ℕ)) (metric : ℕ) : Type 0 where
  pub columns_hold : AllHold claim columns
  pub at_least : (register : ℕ) → register < registers
      → metric ≤ slice_index (last_of columns) register

-- each column is right, and this is the least register at which the last is less than the metric
pub record IsFirstLess (claim : Claim) (columns : List (List ℕ))
    (metric t register : ℕ) : Type 0 where
  pub columns_hold : AllHold claim columns
  pub last : t ≡ length columns - 1
  pub below : register < registers
  pub less : slice_index (last_of columns) register < metric
  pub registers_before : (other : ℕ) → other < register
      → metric ≤ slice_index (last_of columns) other

-- the first place that is wrong, after a column in which a register was found
abbrev pub first_place : Option (ℕ × ℕ) → ℕ → Option ℕ → Option (ℕ × ℕ)
first_place (Some place) column found = Some place
first_place None column (Some register) = Some (column, register)
first_place None column None = None
