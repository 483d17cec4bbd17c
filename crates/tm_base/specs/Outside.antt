-- What calls of a source and of a sink do to the lists that these give, and when a fault may be
-- answered.
use Rattle.std.specs.Prelude.{◌≡◌, ◌⊎◌, ◌==◌, ◌&&◌, ℕ, ◌<◌, ◌≤◌, Bool, false, nat_lt, List, [], ◌++◌, length, take, Option, Some, None, Result, Ok, Err, OnErr, OnOk, IsTrue}

-- a count of faults has risen in a call, or stands at the last value of its type
abbrev pub Rose : ℕ → ℕ → Type 0 → Type 0
Rose before now is_last = (before < now) ⊎ is_last

-- the octets of `octets` that a read gave or a write took
abbrev pub moved : {E : Type 0} → Result ℕ E → List ℕ → List ℕ
moved (Ok count) octets = take count octets
moved (Err e) octets = []

-- no octet was moved, though there was room or something to write
abbrev pub is_nothing : {E : Type 0} → Result ℕ E → List ℕ → Bool
is_nothing (Ok count) octets = (count == 0) && nat_lt 0 (length octets)
is_nothing (Err e) octets = false

-- a read: how many octets there was room for, and how many it gave
pub record Read : Type 0 where
  pub room : ℕ
  pub count : ℕ

abbrev pub read_of : {E : Type 0} → Result ℕ E → List ℕ → Read
read_of result octets = record { room = length octets; count = length (moved result octets) }

-- the known reads, and then further ones
abbrev pub append_reads : Option (List Read) → List Read → Option (List Read)
append_reads None reads = None
append_reads (Some known) reads = Some (known ++ reads)

-- a call fails only where the count of faults rose, and leaves the count as it was where it doesn't
-- fail
pub record HasCause {T E : Type 0} (before now : ℕ) (is_last : Type 0)
    (result : Result T E) : Type 0 where
  pub later : before ≤ now
  pub failed : OnErr result (Rose before now is_last)
  pub same : OnOk result (now ≡ before)

-- a write fails, or takes nothing of a piece that isn't empty, only where the count of faults rose
pub record HasWriteCause {E : Type 0} (before now : ℕ) (is_last : Type 0) (result : Result ℕ E)
    (piece : List ℕ) : Type 0 where
  pub later : before ≤ now
  pub failed : OnErr result (Rose before now is_last)
  pub stalled : IsTrue (is_nothing result piece) → Rose before now is_last
  pub same : OnOk result (is_nothing result piece ≡ false → now ≡ before)
