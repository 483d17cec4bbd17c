use Rattle.std.proofs.Common.{◌≡◌, ◌^◌, ◌%◌, Bool, List, ◌++◌, take}
use Rattle.tm_base.specs.Bits.{number_of, bits_of}
use Rattle.tm_sync.proofs.search.last_bits.Given as goal

abbrev pub invariant-loop-octet : goal.invariant-loop-octet
invariant-loop-octet l =
    (bits : List Bool) → l.initial.received ≡ number_of bits % 2 ^ 32
    → l.last ≡ number_of (bits ++ bits_of (take l.octet-index l.octets)) % 2 ^ 32
