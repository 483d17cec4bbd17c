-- A window's block as contracts see it.
use Rattle.std.specs.Prelude.{ℕ, List}

-- the register its path starts from, its steps and how many are kept, its path's cost and bits, the
-- register after the kept ones, and how many octets were dropped before the window
pub record WindowBlock : Type 0 where
  pub start : ℕ
  pub steps : ℕ
  pub kept : ℕ
  pub metric : ℕ
  pub bits : List ℕ
  pub end_state : ℕ
  pub dropped : ℕ

-- a block before whose window no octet was dropped
abbrev pub undropped_block : (start steps kept metric : ℕ) → (bits : List ℕ) → (end_state : ℕ)
    → WindowBlock
undropped_block start steps kept metric bits end_state = record {
  start = start;
  steps = steps;
  kept = kept;
  metric = metric;
  bits = bits;
  end_state = end_state;
  dropped = 0;
}
