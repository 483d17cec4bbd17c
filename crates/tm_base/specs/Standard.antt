-- The source and the sink over std's readers and writers.
use Rattle.std.specs.Prelude.{ℕ, Bool, List, Option}

-- the octets that the reader has left, where it says which; how often a read failed, and whether
-- one has reported the end
pub record ReaderState : Type 0 where
  pub remaining : Option (List ℕ)
  pub faults : ℕ
  pub ended : Bool

-- the octets that the writer holds, where it says which; how often a write failed, or took nothing
-- of a piece
pub record WriterState : Type 0 where
  pub contents : Option (List ℕ)
  pub faults : ℕ
