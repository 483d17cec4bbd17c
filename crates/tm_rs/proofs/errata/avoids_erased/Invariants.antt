use Rattle.std.proofs.Common.{◌≡◌, ◌≢◌, ◌<◌, ◌-◌, ℕ, true, false, length}
use Rattle.std.specs.Prelude.{slice_index_or}
use Rattle.tm_rs.proofs.errata.avoids_erased.Given as goal

abbrev pub invariant-loop-i : goal.invariant-loop-i
invariant-loop-i l =
    (j : ℕ) → j < l.i → slice_index_or l.erased j false ≡ true → slice_index_or l.values (length l.erased - 1 - j) 0 ≢ 0
