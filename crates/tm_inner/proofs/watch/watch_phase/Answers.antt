use Rattle.std.proofs.Common.{[], refl, subst, Option}
use Rattle.tm_base.specs.Takers.{HandedOver}
use Rattle.tm_windows.specs.declared.choosing.Chosen.{Chosen}
use Rattle.tm_inner.specs.Phase.{with_phase}
use Rattle.tm_inner.proofs.watch.watch_phase.Goals as goal

pub returns-in-Some-clause-told : goal.returns-in-Some-clause-told
returns-in-Some-clause-told g c =
    let now = c.phase.new.self in
    subst (λ (o : Option Chosen). HandedOver g.W.WindowWatch.told c.args.watch.now (with_phase o []) now)
    c.in-Some.ensures.value (now, c.phase.ensures, refl)

pub returns-in-None-clause-told : goal.returns-in-None-clause-told
returns-in-None-clause-told g c =
    subst (λ (o : Option Chosen). HandedOver g.W.WindowWatch.told c.args.watch.now (with_phase o []) c.args.watch.now)
    c.in-None.ensures.value refl
