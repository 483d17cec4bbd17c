use Rattle.std.proofs.Common.{◌*◌, ◌≤◌, Bool, IsTrue, false, inl, inr, subst, drop}
use Rattle.std.proofs.lemmas.Bool.Decides.{leb_tells}
use Rattle.tm_windows.specs.Queue.{Queueing, AwaitsPhase, skip_of}
use Rattle.tm_windows.proofs.KeptBits.{few-bits, most-bits}
use Rattle.tm_windows.proofs.queue.WindowQueue.may_wait.Goals as goal

pub returns-then-not-awaits_phase-clause-waits : goal.returns-then-not-awaits_phase-clause-waits
returns-then-not-awaits_phase-clause-waits c = λ is.
    let q = c.args.self.now in
    let count = c.count_closed.result in
    let keep = c.self.inside.settings.shape.keep in
    let chosen : AwaitsPhase q → ⊥ =
    λ awaits. (let both : IsTrue false = c.if-not-awaits_phase.ensures.1 awaits in absurd cc) in
    let room : count * q.windows.settings.keep ≤ c.args.bits =
    subst (λ (p : Queueing). count * p.windows.settings.keep ≤ c.args.bits) c.self.view_is
    (elim (leb_tells (count * keep) c.args.bits) as (λ _. count * keep ≤ c.args.bits) [
      | inl le ↦ le.1
      | inr above ↦ absurd (let both : IsTrue false = subst (λ (b : Bool). IsTrue b) above.0 is in cc)
    ]) in (
      chosen,
      λ given done stands.
          let octets = drop (skip_of q.chosen) given in
          let due = c.count_closed.ensures.due given done stands chosen in (
            due.0,
            few-bits q.windows octets done due.0 count c.args.bits due.3 due.1 room,
            due.3,
            λ plain are. most-bits q.windows octets done due.0 plain count due.3 due.1
                (c.count_closed.ensures.most given done plain stands chosen are) are,
          ),
    )
