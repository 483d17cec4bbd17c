use Rattle.std.proofs.Common.{◌≡◌, ℕ, ◌≤◌, ◌<◌, ◌+◌, ◌^◌, Bool, List, ◌++◌, length, IfSome}
use Rattle.tm_base.specs.Bits.{bits_of_octet, low_bits}
use Rattle.tm_sync.specs.declared.found.Found.{Found}
use Rattle.tm_sync.specs.Searching.{SearchStandsFor, inside_of}
use Rattle.tm_sync.proofs.search.Search.push_bits.Given as goal

abbrev pub invariant-loop-left : goal.invariant-loop-left
invariant-loop-left l = record {
  rules : l.self.rules ≡ l.fn.self.rules;
  empty : length l.room ≡ 0;
  most : l.left ≤ 8;
  few : IfSome (inside_of l.self) (λ count. count + l.left < 8);
  given : (prefix : List Bool) × (bits_of_octet l.octet ≡ prefix ++ low_bits l.left l.octet)
      × ((room : List ℕ) (bits : List Bool) (found : List Found) → length bits + 8 ≤ 2 ^ 63
      → SearchStandsFor l.fn.self room bits found → SearchStandsFor l.self room (bits ++ prefix) found);
}

abbrev pub decreases-loop-left : goal.decreases-loop-left
decreases-loop-left l = l.left
