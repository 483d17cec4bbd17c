use Rattle.std.proofs.Common.{◌≡◌, ◌*◌, ◌^◌, ◌<◌, drop, take}
use Rattle.tm_base.specs.Bits.{bits_of, low_bits}
use Rattle.tm_sync.specs.Places.{Rules}
use Rattle.tm_sync.specs.Searching.{NoneMatch, TellFar}
use Rattle.tm_sync.proofs.recent_bits.far_octets.Given as goal

abbrev pub invariant-loop-k : goal.invariant-loop-k
invariant-loop-k l = record {
  fits : l.word < 2 ^ 32;
  word : low_bits 32 l.word ≡ bits_of (take 4 (drop l.k l.octets));
  none : (rules : Rules) → TellFar rules l.too_many l.far
      → NoneMatch rules (8 * l.k) (bits_of l.octets);
}
