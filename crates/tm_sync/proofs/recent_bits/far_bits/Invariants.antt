use Rattle.std.proofs.Common.{drop}
use Rattle.tm_base.specs.Bits.{bits_of}
use Rattle.tm_sync.specs.Places.{Rules}
use Rattle.tm_sync.specs.Searching.{NoneMatch, TellFar}
use Rattle.tm_sync.proofs.recent_bits.far_bits.Given as goal

abbrev pub invariant-loop-k : goal.invariant-loop-k
invariant-loop-k l =
    (rules : Rules) → TellFar rules l.too_many l.far
    → NoneMatch rules l.k (drop l.from (bits_of l.room))
