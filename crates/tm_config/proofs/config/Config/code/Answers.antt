use Rattle.std.proofs.Common.{◌∙◌, sym, ap}
use Rattle.tm_config.specs.Configuration.{Configuration}
use Rattle.tm_config.proofs.Choices.{strength_of_code}
use Rattle.tm_config.proofs.config.Config.code.Goals as goal

pub returns-clause-some : goal.returns-clause-some
returns-clause-some c = λ some.
    rw c.correctable.ensures (strength_of_code c.self.inside.values.code
    (λ is. some (ap (λ (v : Configuration). v.code) (sym c.self.view_is) ∙ is)))
