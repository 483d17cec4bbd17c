use Rattle.std.proofs.Common.{◌≡◌, ◌≤◌, ◌+◌, ◌-◌, ◌*◌, ℕ, Bool, List, length, drop}
use Rattle.tm_sync.specs.Places.{are_verified, verify_bits}
use Rattle.tm_sync.specs.Searching.{Recalls}
use Rattle.tm_sync.proofs.search.Search.is_verified.Given as goal

abbrev pub invariant-loop-left : goal.invariant-loop-left
invariant-loop-left l = record {
  fewer : l.left ≤ l.self.rules.verify;
  held : (bits : List Bool) (from : ℕ) → Recalls l.self l.room bits from
      → from + 32 + verify_bits l.self.rules ≤ length bits
      → are_verified l.self.rules l.inverted l.self.rules.verify
      (drop (length bits - (32 + verify_bits l.self.rules)) bits)
      ≡ are_verified l.self.rules l.inverted l.left (drop (length bits -
      (32 + l.left * (32 + l.self.rules.block_bits))) bits);
}

abbrev pub decreases-loop-left : goal.decreases-loop-left
decreases-loop-left l = l.left
