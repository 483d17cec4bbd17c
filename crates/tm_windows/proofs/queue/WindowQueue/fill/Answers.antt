use Rattle.std.proofs.Common.{◌≡◌, ◌-◌, ◌∙◌, ◌++◌, ℕ, List, min, take, drop, length, sym, ap, subst, arith}
use Rattle.std.proofs.lemmas.List.{length-take-le, length-map}
use Rattle.tm_base.specs.SoftForm.{from_form, unsigned_value}
use Rattle.tm_windows.specs.Queue.{Queueing, fill_room, QueueStandsFor}
use Rattle.tm_windows.proofs.Queues.{filled-stands, room-taken, room-open, converted}
use Rattle.tm_windows.proofs.queue.WindowQueue.fill.Goals as goal

pub returns-clause-count : goal.returns-clause-count
returns-clause-count c =
    let octets = c.args.octets.now in
    subst (λ (q : Queueing). c.fill-count.result ≡ min (length octets) (fill_room q - length q.held)) c.self.view_is
    (room-taken _ (length octets) c.saturating_sub.result c.self.inside.held.room c.fill-count.result
    (omega (arith, c.self.invariant)) (omega (arith, c.self.invariant)) (omega (arith, c.self.invariant))
    (omega (
      arith,
      c.saturating_sub.ensures,
      ap length (c.as_slice-before.ensures.octets ∙ c.drop_first.ensures.octets),
      c.room-most.ensures,
      ap (λ (q : Queueing). fill_room q) c.self.view_is,
    )) (c.fill-count.ensures.count ∙ (λ i. min (min (length octets) c.saturating_sub.result)
    (c.drop_first.ensures.room i - length (c.drop_first.ensures.octets i)))))

pub returns-clause-some : goal.returns-clause-some
returns-clause-some c = λ is more.
    omega (
      arith,
      returns-clause-count c,
      more,
      room-open c.args.self.now
          (omega (arith, c.self.invariant, ap (λ (q : Queueing). q.most) c.self.view_is)) is,
    )

pub returns-clause-stands : goal.returns-clause-stands
returns-clause-stands c = λ given done stands.
    let held = drop c.self.inside.passed c.self.inside.held.octets in
    let read = c.convert.new.held.octets in
    let n = c.fill-count.result in
    let octets = c.args.octets.now in
    let form = c.args.is_signed in
    let more = from_form form (take n octets) in
    let first = c.as_slice-before.result.now in
    let is : c.convert.new.held.octets ≡ held ++ more = c.convert.ensures.octets
    ∙ ap (λ (o : List ℕ). take (length first) o ++ from_form form (drop (length first) o)) (c.fill-count.ensures.octets
    ∙ ap (λ (o : List ℕ). o ++ take n octets) c.drop_first.ensures.octets)
    ∙ converted form (length first) held (take n octets) (ap length (c.as_slice-before.ensures.octets ∙ c.drop_first.ensures.octets)) in
    let few : length more ≡ n = length-map (take n octets) (λ octet. unsigned_value form octet)
    ∙ length-take-le n octets (omega (arith, returns-clause-count c)) in
    subst (λ (q : Queueing). QueueStandsFor (record q { held = c.convert.new.held.octets; read = read }) (given ++ more)
    done)
    (sym c.self.view_is)
    (subst (λ (o : List ℕ). QueueStandsFor (record c.args.self.now { held = o; read = read }) (given ++ more) done)
    (ap (λ (q : Queueing). q.held ++ more) (sym c.self.view_is) ∙ sym is)
    (filled-stands c.args.self.now more given read done
    (omega (arith, c.self.invariant, ap (λ (q : Queueing). q.windows.settings.keep) c.self.view_is)) c.requires.going
    (omega (arith, few, returns-clause-count c)) stands))
