use Rattle.std.proofs.Common.{◌≡◌, ◌≤◌, ◌+◌, ◌-◌, ◌%◌, ◌^◌, ℕ, Bool, List, length, take, drop}
use Rattle.tm_sync.specs.Places.{verify_bits}
use Rattle.tm_sync.specs.Searching.{Recalls}
use Rattle.tm_sync.proofs.Numbers.{value_from}
use Rattle.tm_sync.proofs.search.Search.received_at.Given as goal

abbrev pub invariant-loop-k : goal.invariant-loop-k
invariant-loop-k l =
    (bits : List Bool) (from : ℕ) → Recalls l.self l.room bits from → 32 ≤ l.back → l.back ≤ verify_bits l.self.rules
    → from + 32 + l.back ≤ length bits
    → l.received ≡ value_from 0 (take l.k (drop (length bits - (32 + l.back)) bits)) % 2 ^ 32
