use Rattle.std.proofs.Common.{◌≡◌, drop}
use Rattle.tm_config.specs.Accepted.{first_error}
use Rattle.tm_config.proofs.ranges.first_error.Given as goal

abbrev pub invariant-loop-fits : goal.invariant-loop-fits
invariant-loop-fits l = first_error (drop l.fits-index l.tests) ≡ first_error l.tests
