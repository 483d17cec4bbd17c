use Rattle.std.proofs.Common.{◌+◌, ◌≤◌, length, refl, sym, ap, subst, ◌∙◌, arith}
use Rattle.tm_conv.specs.Path.{steps_size}
use Rattle.tm_path_cert.specs.Tests.{first_place}
use Rattle.tm_path_cert.specs.Checking.{Checking}
use Rattle.tm_path_cert.proofs.Pushed.{CheckStandsFor-push}
use Rattle.tm_path_cert.proofs.checking.Check.column.Goals as goal
use Rattle.tm_conv.proofs.Sizes.{steps_size-least}

pub overflow_add-self-2 : goal.overflow_add-self-2
overflow_add-self-2 c =
    let P : Checking → Type 0 = λ e. steps_size e.claim.rate e.claim.first e.count ≤ length e.claim.soft in
    let more = subst P (sym c.self.view_is) c.requires.more in
    record {
      fits = omega (
        arith,
        more,
        steps_size-least c.self.inside.rate c.self.inside.first c.self.inside.count,
        c.self.invariant.1,
      );
    }

pub returns-clause-stands : goal.returns-clause-stands
returns-clause-stands c = λ given stands.
    CheckStandsFor-push c.args.self.now _ given c.args.sums.now c.first_wrong-found.result
    (ap (λ (e : Checking). e.claim) c.self.view_is)
    (ap (λ (e : Checking). e.count + 1) c.self.view_is)
    refl
    (c.first_place-self-inside.ensures ∙ ap (λ (e : Checking). first_place e.wrong e.count c.first_wrong-found.result)
    c.self.view_is)
    c.first_wrong-found.ensures
    stands
