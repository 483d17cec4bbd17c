use Rattle.std.proofs.Common.{◌≡◌, ℕ, ◌≤◌, ◌+◌, ◌-◌, ◌*◌, ◌/◌, ◌%◌, ◌^◌, Bool, List, ◌++◌, length}
use Rattle.tm_base.specs.Bits.{bits_of_octet, low_bits}
use Rattle.tm_sync.specs.declared.found.Found.{Found}
use Rattle.tm_sync.specs.Searching.{Searching, SearchStandsFor}
use Rattle.tm_sync.proofs.search.Search.pass_octet.Given as goal

-- a search that was given an octet but for its last `left` bits
abbrev pub passing : Searching → ℕ → ℕ → Searching
passing s octet left =
    record s { received = (s.received * 256 + octet) / 2 ^ left % 2 ^ 32; pushed = s.pushed + (8 - left) }

abbrev pub invariant-loop-left : goal.invariant-loop-left
invariant-loop-left l = record {
  most : l.left ≤ 8;
  given : (prefix : List Bool) × (bits_of_octet l.octet ≡ prefix ++ low_bits l.left l.octet)
      × ((room : List ℕ) (bits : List Bool) (found : List Found) → length bits + 8 ≤ 2 ^ 63
      → SearchStandsFor l.fn.self room bits found
      → SearchStandsFor (passing l.fn.self l.octet l.left) room (bits ++ prefix) found);
}

abbrev pub decreases-loop-left : goal.decreases-loop-left
decreases-loop-left l = l.left
