use Rattle.std.proofs.Common.{ap}
use Rattle.tm_config.specs.Configuration.{unfollowed}
use Rattle.tm_config.proofs.Accepting.{unfollowed_is_accepted}
use Rattle.tm_config.proofs.config.Config.unfollowed.Goals as goal

pub invariant_of-result : goal.invariant_of-result
invariant_of-result c = unfollowed_is_accepted c.self.inside.values c.self.invariant

pub returns-clause-value : goal.returns-clause-value
returns-clause-value c = ap unfollowed c.self.view_is

pub returns-clause-accepted : goal.returns-clause-accepted
returns-clause-accepted c = unfollowed_is_accepted c.self.inside.values c.self.invariant
