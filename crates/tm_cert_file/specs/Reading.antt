-- What contracts see of a certificate that is being read, and for which octets and windows, so far,
-- it stands.
use Rattle.std.specs.Prelude.{◌≡◌, ℕ, List, length}
use Rattle.tm_cert_file.specs.declared.seen.Seen.TheVariants.{More, Passed}
use Rattle.tm_cert_file.specs.Window.{Window, window_size, steps_in}
use Rattle.tm_cert_file.specs.Before.{Rules, Before, at_first}
use Rattle.tm_cert_file.specs.Seen.{IsSeen}
use Rattle.tm_cert_file.specs.File.{ArePassed}

-- what the window has to agree with that is being read, and those of its octets that are there
pub record Reading : Type 0 where
  pub rules : Rules
  pub before : Before
  pub octets : List ℕ

-- nothing is seen of the window yet
abbrev pub IsOpen : Reading → Type 0
IsOpen r = IsSeen r.rules r.before r.octets More

-- the window passed, and no octet after it was taken
pub record HasPassed (r : Reading) : Type 0 where
  pub passed : IsSeen r.rules r.before r.octets Passed
  pub just : length r.octets ≡ window_size r.rules.rate r.before.t (steps_in r.octets)

-- a certificate that was given these octets and no others, in which these windows passed and
-- were dropped
abbrev pub ReaderStandsFor : Reading → List ℕ → List Window → Type 0
ReaderStandsFor r given windows =
    ArePassed r.rules (at_first r.rules) given windows r.before r.octets
