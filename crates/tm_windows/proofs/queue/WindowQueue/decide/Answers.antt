use Rattle.std.proofs.Common.{◌≡◌, ◌≤◌, ◌∙◌, ℕ, List, Option, Some, None, length, drop, sym, ap, subst, arith, unwrap_or, IsTrue, false}
use Rattle.tm_windows.specs.Slip.{octets_seen, IsSlip}
use Rattle.tm_windows.specs.Queue.{Queueing, AwaitsPhase, QueueStandsFor}
use Rattle.tm_windows.proofs.Phases.{period_size_most}
use Rattle.tm_windows.proofs.Queues.{moved-stands}
use Rattle.tm_windows.proofs.queue.WindowQueue.decide.Goals as goal

pub returns-clause-stands : goal.returns-clause-stands
returns-clause-stands c = λ given done stands.
    let s = c.self.inside in
    let shape = s.settings.shape in
    let steps = c.in-Some-seen.steps in
    let octets = c.octets_from-octets.ensures.octets in
    let many : octets_seen shape.rate s.t steps ≤ length (drop s.passed s.held.octets) =
    omega (arith, c.if-octets-octets_seen.false, c.octets_seen.ensures.value, ap length octets) in
    moved-stands _ steps c.slip-count.result c.starts_after-self-inside.result (drop c.passed_by-self-inside.result s.held.octets) given _ done
    (λ awaits. let both : IsTrue false = c.if-awaits_phase.ensures.1
    (subst (λ (q : Queueing). AwaitsPhase q) c.self.view_is awaits) in absurd cc)
    c.in_default.is c.in-Some-seen.is many
    (subst (λ (o : List ℕ). IsSlip shape.rate shape.invert s.t steps o c.slip-count.result) octets
    c.slip-count.ensures.slip)
    (c.passed_by-self-inside.ensures.octets ∙ ap (λ (n : ℕ). drop n (drop s.passed s.held.octets)) c.from.ensures)
    c.starts_after-self-inside.ensures.value
    (subst (λ (q : Queueing). QueueStandsFor q given done) (sym c.self.view_is) stands)

pub invariant_of-self : goal.invariant_of-self
invariant_of-self c =
    let i = c.self.invariant in (
      i.0,
      i.1,
      i.2,
      i.3,
      i.4,
      c.starts_after-self-inside.ensures.small,
      i.6,
      λ none. absurd (let both : Some c.in-Some-seen.steps ≡ None = sym c.in-Some-seen.is ∙ none in cc),
      λ find none. absurd (let both : IsTrue false = c.if-awaits_phase.ensures.1
          (subst (λ (q : Queueing). AwaitsPhase q) c.self.view_is (find, none)) in cc),
      i.9,
      i.10,
      λ count is. omega (
        arith,
        c.slip-count.ensures.small,
        period_size_most c.self.inside.settings.shape.rate,
        ap (λ (o : Option ℕ). unwrap_or o 0) is,
      ),
      i.12,
      i.13,
      i.14,
      omega (arith, i.15, c.passed_by-self-inside.ensures.inside),
      c.passed_by-self-inside.ensures.inside.1,
    )
