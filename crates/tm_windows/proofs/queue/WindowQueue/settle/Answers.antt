use Rattle.std.proofs.Common.{true, false, sym, subst, IsTrue}
use Rattle.tm_windows.specs.Queue.{Queueing, AfterPhase}
use Rattle.tm_windows.proofs.Queues.{ended-stands}
use Rattle.tm_windows.proofs.queue.WindowQueue.settle.Goals as goal
use Rattle.tm_windows.proofs.queue.WindowQueue.settle.Goals.{then-awaits_phase, else-awaits_phase}

pub returns-clause-stands : goal.returns-clause-stands
returns-clause-stands c = λ given done stands.
    subst (λ (q : Queueing). AfterPhase (record q { has_ended = true }) given done) (sym c.self-2.view_is)
    (elim c.if-awaits_phase.branch as (λ _. AfterPhase (record c.if-awaits_phase.self { has_ended = true }) given done) [
      | then-awaits_phase w ↦ subst (λ (q : Queueing). AfterPhase (record q { has_ended = true }) given done)
          (sym w.self-is) (w.choose.ensures.stands given done stands)
      | else-awaits_phase w ↦ subst (λ (q : Queueing). AfterPhase (record q { has_ended = true }) given done)
          (sym w.self-is) (ended-stands c.args.self.now given done stands
          (λ awaits. let both : IsTrue false = w.if-awaits_phase.ensures.1 awaits in absurd cc))
    ])
