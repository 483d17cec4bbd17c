-- A codeblock with the sequence added (CCSDS 131.0-B, Pseudo-Randomizer).
use Rattle.std.specs.Prelude.{ℕ, suc, Bool, List, [], ◌∷◌}
use Rattle.std.proofs.Math.Bool.{xor}
use Rattle.tm_base.specs.Bits.{bits_of, octets_of}
use Rattle.tm_codeblock.specs.Sequence.{sequence_bit}

-- bits with the sequence added to them modulo 2, from its bit k on
abbrev pub masked_from : ℕ → List Bool → List Bool
masked_from k [] = []
masked_from k (bit ∷ bits) = xor bit (sequence_bit k) ∷ masked_from (suc k) bits

-- octets with the sequence added to their bits, from its start
abbrev pub masked : List ℕ → List ℕ
masked octets = octets_of (masked_from 0 (bits_of octets))
