use Rattle.std.proofs.Common.{◌≡◌, ◌+◌, ◌-◌, ap, subst, arith}
use Rattle.tm_conv.specs.Path.{steps_size}
use Rattle.tm_path_cert.specs.Checking.{Checking}
use Rattle.tm_path_cert.proofs.Costs.{size-next}
use Rattle.tm_path_cert.proofs.checking.Check.step_size.Goals as goal

pub returns : goal.returns
returns c =
    let P : Checking → Type 0 = λ e. steps_size e.claim.rate e.claim.first (e.count - 1) + c.step_len.result
    ≡ steps_size e.claim.rate e.claim.first e.count in
    subst P c.self.view_is
    (size-next c.self.inside.rate c.self.inside.first c.self.inside.count _ c.step_len.result (omega arith)
    (ap (λ v. c.self.inside.first + v) c.from.ensures) c.step_len.ensures)
