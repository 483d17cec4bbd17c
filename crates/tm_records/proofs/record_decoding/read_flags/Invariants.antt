use Rattle.std.proofs.Common.{◌≡◌, ◌==◌, ◌<◌, ℕ, Bool, not, get_or}
use Rattle.tm_records.proofs.record_decoding.read_flags.Given as goal

abbrev pub invariant-loop-i : goal.invariant-loop-i
invariant-loop-i l = (j : ℕ) (b : Bool) → j < l.i → get_or l.erased j b ≡ not (get_or l.flags j 0 == 0)
