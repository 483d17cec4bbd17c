use Rattle.std.proofs.Common.{rules, ◌+◌, ◌≤◌, length, ap, sym, subst, refl, arith}
use Rattle.tm_conv.specs.Path.{steps_size}
use Rattle.tm_path_cert.specs.Tests.{HoldsAt, IsFirstFailing}
use Rattle.tm_path_cert.specs.Claim.{Claim}
use Rattle.tm_path_cert.specs.Checking.{Checking}
use Rattle.tm_path_cert.proofs.Costs.{size-next}
use Rattle.tm_path_cert.proofs.Pushed.{edges_tested}
use Rattle.tm_path_cert.proofs.checking.Check.first_wrong.Goals as goal

pub overflow_add-step : goal.overflow_add-step
overflow_add-step c =
    let P : Checking → Type 0 = λ e. steps_size e.claim.rate e.claim.first e.count ≤ length e.claim.soft in
    let more = subst P (sym c.self.view_is) c.requires.more in
    let next = size-next c.self.inside.rate c.self.inside.first c.self.inside.count _ c.step_len.result (omega arith)
    (ap (λ v. c.self.inside.first + v) c.from.ensures) c.step_len.ensures in
    record { fits = omega (arith, more, next, c.self.invariant.0, c.self.invariant.1) }

pub slice_bounds-step-end : goal.slice_bounds-step-end
slice_bounds-step-end c =
    let P : Checking → Type 0 = λ e. steps_size e.claim.rate e.claim.first e.count ≤ length e.claim.soft in
    let more = subst P (sym c.self.view_is) c.requires.more in
    let next = size-next c.self.inside.rate c.self.inside.first c.self.inside.count _ c.step_len.result (omega arith)
    (ap (λ v. c.self.inside.first + v) c.from.ensures) c.step_len.ensures in
    let fits : c.self.inside.place + c.step_len.result ≤ length c.self.inside.soft.now =
    omega (arith, more, next, c.self.invariant.0) in
    search rules

pub returns : goal.returns
returns c =
    let P : Checking → Type 0 = λ e. IsFirstFailing (λ register. HoldsAt e.claim e.count e.last c.args.sums.now
    register) c.first_undercut.result in
    let claim : Claim = record {
      rate = c.self.inside.rate;
      invert = c.self.inside.invert;
      first = c.self.inside.first;
      starts = c.self.inside.starts;
      soft = c.self.inside.soft.now;
    } in
    subst P c.self.view_is
    (edges_tested claim c.self.inside.count _ c.self.inside.place _ c.self.inside.last c.args.sums.now _
    c.first_undercut.result (omega arith)
    (ap (λ v. c.self.inside.first + v) c.from.ensures) c.self.invariant.0
    (ap (λ v. c.self.inside.place + v) c.step_len.ensures) refl c.first_undercut.ensures)
