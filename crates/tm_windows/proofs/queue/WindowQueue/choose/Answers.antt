use Rattle.std.proofs.Common.{◌≡◌, ◌≤◌, ◌∙◌, ◌+◌, ℕ, List, true, false, length, drop, sym, ap, subst, arith}
use Rattle.tm_windows.specs.Phase.{IsPhase}
use Rattle.tm_windows.specs.Queue.{Queueing, phase_size, AwaitsPhase, QueueStandsFor}
use Rattle.tm_windows.proofs.Queues.{chosen-stands}
use Rattle.tm_windows.proofs.queue.WindowQueue.choose.Goals as goal

pub returns-clause-stands : goal.returns-clause-stands
returns-clause-stands c = λ given done stands.
    let s = c.self.inside in
    let shape = s.settings.shape in
    chosen-stands _ c.choose-chosen.result true (drop c.passed_by-self-inside.result c.self.inside.held.octets) given _ done
    (omega (arith, c.self.invariant)) (omega (arith, c.self.invariant))
    (subst (λ (q : Queueing). AwaitsPhase q) (sym c.self.view_is) c.requires.awaits)
    (subst (λ (o : List ℕ). IsPhase shape.rate shape.invert (shape.keep + shape.ahead) o c.choose-chosen.result)
    c.octets_from-octets.ensures.octets c.choose-chosen.ensures)
    (c.passed_by-self-inside.ensures.octets ∙ ap (λ (n : ℕ). drop n (drop s.passed s.held.octets)) c.from.ensures)
    (λ going. absurd (let never : true ≡ false = going in cc))
    (subst (λ (q : Queueing). QueueStandsFor q given done) (sym c.self.view_is) stands)

pub returns-clause-lasts : goal.returns-clause-lasts
returns-clause-lasts c = λ many given done stands.
    let s = c.self.inside in
    let shape = s.settings.shape in
    chosen-stands _ c.choose-chosen.result s.has_ended (drop c.passed_by-self-inside.result c.self.inside.held.octets) given _ done
    (omega (arith, c.self.invariant)) (omega (arith, c.self.invariant))
    (subst (λ (q : Queueing). AwaitsPhase q) (sym c.self.view_is) c.requires.awaits)
    (subst (λ (o : List ℕ). IsPhase shape.rate shape.invert (shape.keep + shape.ahead) o c.choose-chosen.result)
    c.octets_from-octets.ensures.octets c.choose-chosen.ensures)
    (c.passed_by-self-inside.ensures.octets ∙ ap (λ (n : ℕ). drop n (drop s.passed s.held.octets)) c.from.ensures)
    (λ going. subst (λ (q : Queueing). phase_size q ≤ length q.held) (sym c.self.view_is) many)
    (subst (λ (q : Queueing). QueueStandsFor q given done) (sym c.self.view_is) stands)
