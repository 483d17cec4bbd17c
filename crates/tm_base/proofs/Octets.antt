-- Lists whose numbers fit into an octet.
use Rattle.std.proofs.Common.{ℕ, ◌<◌, List, get_or, arith}
use Rattle.std.proofs.lemmas.List.{get_or_default}
use Rattle.tm_base.specs.Bits.{AreOctets}

-- from what is known of a slice of octets
pub are_octets : (xs : List ℕ) → ((i : ℕ) → get_or xs i 0 < 256) → AreOctets xs
are_octets xs each = λ k d within. omega (arith, each k, get_or_default xs k d 0 within)
