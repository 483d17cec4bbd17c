-- Octets in room that was taken before.
use Rattle.std.specs.Prelude.{ℕ, List}

-- the octets so far, and the room for them
pub record HeldOctets : Type 0 where
  pub octets : List ℕ
  pub room : ℕ
