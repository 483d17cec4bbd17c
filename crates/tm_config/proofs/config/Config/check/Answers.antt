use Rattle.std.proofs.Common.{◌∙◌, sym}
use Rattle.tm_config.proofs.Accepting.{configuration_is_accepted}
use Rattle.tm_config.proofs.Numbers.{configuration-has}
use Rattle.tm_config.proofs.config.Config.check.Goals as goal

pub invariant_of-result : goal.invariant_of-result
invariant_of-result c = rw c.resolved.ensures
    (configuration_is_accepted c.args.raw.now (sym c.refusal.ensures ∙ c.in-None.is))

pub returns-in-None-clause-accepted : goal.returns-in-None-clause-accepted
returns-in-None-clause-accepted c = rw c.resolved.ensures
    (configuration_is_accepted c.args.raw.now (sym c.refusal.ensures ∙ c.in-None.is))

pub returns-in-None-clause-numbers : goal.returns-in-None-clause-numbers
returns-in-None-clause-numbers c = rw c.resolved.ensures
    (configuration-has c.args.raw.now (sym c.refusal.ensures ∙ c.in-None.is))
