use Rattle.std.proofs.Common.{◌≡◌, ◌*◌, ◌≤◌, ◌∙◌, sym, ap, subst, arith, drop, length, length-drop}
use Rattle.std.proofs.lemmas.List.{take_rest}
use Rattle.tm_conv.specs.Path.{steps_size}
use Rattle.tm_windows.specs.Queue.{Queueing}
use Rattle.tm_windows.proofs.ReadOctets.{inside-read, place-inside, step-few}
use Rattle.tm_windows.proofs.queue.WindowQueue.read_from.Goals as goal
use Rattle.tm_windows.proofs.queue.WindowQueue.read_from.Goals.{After-steps_len-first}

pub steps_len-first-requires : goal.steps_len-first-requires
steps_len-first-requires c =
    omega (
      arith,
      step-few c.args.self.now c.args.index c.requires.there c.requires.index,
      ap (λ (q : Queueing). q.run_t) c.self.view_is,
      ap (λ (q : Queueing). c.args.index * q.windows.settings.keep) c.self.view_is,
    )

-- where the window begins among the octets
first_is : (c : After-steps_len-first) → (let q = c.args.self.now in
    c.steps_len-first.result ≡ steps_size q.windows.settings.rate q.run_t (c.args.index * q.windows.settings.keep))
first_is c =
    subst (λ (q : Queueing). c.steps_len-first.result
    ≡ steps_size q.windows.settings.rate q.run_t (c.args.index * q.windows.settings.keep)) c.self.view_is
    c.steps_len-first.ensures

-- it is one of them
inside : (c : After-steps_len-first) → c.steps_len-first.result
    ≤ length (drop c.self.inside.run_at c.self.inside.held.octets)
inside c =
    omega (
      arith,
      first_is c,
      place-inside c.args.self.now c.args.index c.requires.there c.requires.index,
      ap (λ (q : Queueing). length q.read) c.self.view_is,
    )

pub slice_bounds-result-start : goal.slice_bounds-result-start
slice_bounds-result-start c =
    let at = inside (goal.at.slice_bounds-result-start c).After-steps_len-first in
    omega (arith, at, ap length c.octets_from.ensures.octets)

pub slice_bounds-result-count : goal.slice_bounds-result-count
slice_bounds-result-count c =
    let at = inside (goal.at.slice_bounds-result-count c).After-steps_len-first in
    omega (arith, at, ap length c.octets_from.ensures.octets)

pub returns-clause-octets : goal.returns-clause-octets
returns-clause-octets c =
    let q = c.args.self.now in
    let first = first_is (goal.at.returns-clause-octets c).After-steps_len-first
    ∙ ap (steps_size q.windows.settings.rate q.run_t) (sym (c.requires.there.kept c.args.index c.requires.index)) in
    let read = c.octets_from.ensures.octets ∙ ap (λ (u : Queueing). u.read) c.self.view_is in
    take_rest c.octets_from.result.now c.steps_len-first.result ∙ (λ i. drop (first i) (read i))

pub returns-clause-room : goal.returns-clause-room
returns-clause-room c = λ block.
    let octets = c.octets_from.result.now in
    let first = c.steps_len-first.result in
    omega (
      arith,
      inside-read c.args.self.now c.args.index block c.requires.there c.requires.index,
      first_is (goal.at.returns-clause-room c).After-steps_len-first,
      ap length (take_rest octets first),
      length-drop first octets,
      ap length c.octets_from.ensures.octets,
      ap (λ (q : Queueing). length q.read) c.self.view_is,
    )
