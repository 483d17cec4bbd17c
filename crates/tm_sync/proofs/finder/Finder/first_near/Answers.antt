use Rattle.std.proofs.Common.{sym, ap}
use Rattle.tm_sync.specs.Finding.{Finding}
use Rattle.tm_sync.proofs.finder.Finder.first_near.Goals as goal

pub returns-clause-far : goal.returns-clause-far
returns-clause-far c = λ q below.
    c.first_near.ensures.far c.args.self.now.rules q
    (ap (λ (f : Finding). f.rules.tolerance) (sym c.self.view_is))
    (ap (λ (f : Finding). f.rules.either) (sym c.self.view_is)) below
