use Rattle.std.proofs.Common.{◌≡◌, ◌<◌, None, Some, inl, inr, ap, subst, arith, length}
use Rattle.std.specs.Option.{ForSome}
use Rattle.tm_windows.specs.Windows.{IsSeen}
use Rattle.tm_windows.specs.Queue.{Queueing, AwaitsPhase, HoldsRun}
use Rattle.tm_windows.proofs.HeldOctets.{IsMost, after_phase, due_after, no_more_held, undropped_most}
use Rattle.tm_windows.proofs.queue.WindowQueue.count_closed.Goals as goal

-- the octets held close as many windows as `closed_windows` answers
holds : (c : goal.After-closed_windows) → 0 < c.closed_windows.result → HoldsRun c.args.self.now c.closed_windows.result
holds c some =
    subst (λ (q : Queueing). HoldsRun q c.closed_windows.result) c.self.view_is
    (omega (arith, ap length c.octets_from-len.ensures.octets, c.closed_windows.ensures.room some))

-- and no more of them than are decoded at a time
closes-all : (c : goal.After-closed_windows) → c.closed_windows.result < c.args.self.now.most
    → IsMost c.args.self.now c.closed_windows.result
closes-all c few =
    subst (λ (q : Queueing). c.closed_windows.result < q.most → IsMost q c.closed_windows.result) c.self.view_is
    (λ less. omega (
      arith,
      ap length c.octets_from-len.ensures.octets,
      c.closed_windows.ensures.all (omega (arith, less, c.len.ensures)),
    )) few

-- where no slip is looked for, it is decided that nothing is dropped
undropped : (c : goal.After-closed_windows) → (AwaitsPhase c.args.self.now → ⊥) → c.args.self.now.windows.seen ≡ None
    → c.args.self.now.dropped ≡ Some 0
undropped c chosen none =
    subst (λ (q : Queueing). (AwaitsPhase q → ⊥) → q.windows.seen ≡ None → q.dropped ≡ Some 0) c.self.view_is
    (λ made unseen. elim (c.self.invariant.7 unseen) as (λ _. c.self.inside.dropped ≡ Some 0) [
      | inl awaits ↦ absurd (made awaits)
      | inr is ↦ is
    ]) chosen none

pub returns-clause-due : goal.returns-clause-due
returns-clause-due c = λ given done stands chosen.
    let q = c.args.self.now in
    let count = c.closed_windows.result in
    let after = after_phase q given done stands chosen in
    let seen = c.self.invariant.6 in
    due_after c.best_path_law.ensures.exists q given done count
    (subst (λ (p : Queueing). ForSome p.starts (λ register. register < 64)) c.self.view_is c.self.invariant.5)
    (subst (λ (p : Queueing). IsSeen p.windows) c.self.view_is (λ steps is. ((seen steps is).0, (seen steps is).2)))
    (subst (λ (p : Queueing). 0 < p.windows.settings.keep) c.self.view_is (omega (arith, c.self.invariant)))
    (undropped c chosen) (holds c) (no_more_held q count after.few (closes-all c)) after

pub returns-clause-most : goal.returns-clause-most
returns-clause-most c = λ given done plain stands chosen due.
    undropped_most c.args.self.now given done plain c.closed_windows.result (holds c)
    (after_phase c.args.self.now given done stands chosen) due
