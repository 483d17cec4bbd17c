-- Room that is said before.
use Rattle.std.proofs.Common.{◌≡◌, ◌≤◌, ℕ, Bool, true, false, if◌then◌else◌, nat_le, Some, None, arith}
use Rattle.std.proofs.lemmas.Bool.Decides.{nat_tests}
use Rattle.tm_buffers.specs.Buffer.{has_room}

-- there is as much room as is needed
pub needed : (count : ℕ) (some : Bool) (room : ℕ) → has_room (if some then Some count else None) room ≡ true
    → count ≤ room
needed count true room is = let test : nat_le count room ≡ true = is in grind (arith, nat_tests)
needed count false room is = absurd cc
