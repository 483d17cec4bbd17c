use Rattle.std.proofs.Common.{ℕ, ◌<◌}
use Rattle.tm_path_cert.specs.Claim as claim
use Rattle.tm_path_cert.specs.Tests.{StartsAt}
use Rattle.tm_path_cert.proofs.columns.first_start_wrong.Given as goal

abbrev pub invariant-loop-register : goal.invariant-loop-register
invariant-loop-register l = (other : ℕ) → other < l.register → StartsAt (claim.is_start l.starts) l.sums other
