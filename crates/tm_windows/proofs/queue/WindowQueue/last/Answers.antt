use Rattle.std.proofs.Common.{◌-◌, ◌+◌, ◌≤◌, ◌∙◌, ◌++◌, [], ℕ, List, length, length-drop, drop, map, take, set, unwrap_or, sym, ap, subst, arith}
use Rattle.std.proofs.lemmas.Grind.{take-set_at}
use Rattle.tm_conv.proofs.Sizes.{steps_size-least, steps_size-most}
use Rattle.tm_viterbi.specs.Blocks.{IsBlock}
use Rattle.tm_viterbi.specs.WindowBlock.{WindowBlock}
use Rattle.tm_windows.specs.Candidates.{block_of}
use Rattle.tm_windows.specs.Windows.{undropped}
use Rattle.tm_windows.specs.Queue.{Queueing, AwaitsPhase, IsOpen, IsRead, IsThere, QueueEndsFor}
use Rattle.tm_windows.proofs.LastWindow.{AreWhole, IsLastBlock, after_last, are_whole, few_left, ends-none, ends-one, last-read, last-there}
use Rattle.tm_windows.proofs.queue.WindowQueue.last.Goals as goal
use Rattle.tm_windows.proofs.queue.WindowQueue.last.Goals.{After-self-10-1, After-steps_len}

whole : (c : After-steps_len) → AreWhole c.args.self.now c.whole_steps-steps.result c.steps_len.result
whole c =
    let steps = c.whole_steps-steps in
    let same = ap length c.octets_from-octets.ensures.octets in
    subst (λ (q : Queueing). AreWhole q steps.result c.steps_len.result) c.self.view_is
    (are_whole _ steps.result c.steps_len.result
    (subst (λ (q : Queueing). IsOpen q) (sym c.self.view_is) c.requires.is_open)
    (subst (λ (q : Queueing). AwaitsPhase q → ⊥) (sym c.self.view_is) c.requires.settled) c.steps_len.ensures
    (omega (arith, steps.ensures.whole, same)) steps.ensures.most (λ less. omega (arith, steps.ensures.all less, same)))

few : (c : After-steps_len) → length c.octets_from-octets.result.now - c.steps_len.result ≤ 1
few c =
    omega (
      arith,
      few_left c.args.self.now c.whole_steps-steps.result c.steps_len.result (whole c),
      ap length c.octets_from-octets.ensures.octets,
      ap (λ (q : Queueing). length q.held) c.self.view_is,
    )

pub overflow_cast-left : goal.overflow_cast-left
overflow_cast-left c = record { fits = omega (arith, few c) }

pub returns-then-steps-eq0-clause-left : goal.returns-then-steps-eq0-clause-left
returns-then-steps-eq0-clause-left c = few (goal.at.returns-then-steps-eq0-clause-left c).After-steps_len

pub returns-then-steps-eq0-clause-ends : goal.returns-then-steps-eq0-clause-ends
returns-then-steps-eq0-clause-ends c = λ given done stands.
    let k = (goal.at.returns-then-steps-eq0-clause-ends c).After-steps_len in
    let octets = c.self.inside.held.octets in
    let held = drop (length c.as_slice.result.now) octets in
    let read = drop c.self.inside.run_at octets in
    let q = c.args.self.now in
    subst (λ (p : Queueing). QueueEndsFor (record p { held = held; ready = []; read = read }) given (done ++ [])
    (length c.octets_from-octets.result.now - c.steps_len.result)) (sym c.self.view_is)
    (subst (λ (n : ℕ). QueueEndsFor (record q { held = held; ready = []; read = read }) given (done ++ [])
    (n - c.steps_len.result))
    (ap (λ (p : Queueing). length p.held) (sym c.self.view_is) ∙ ap length (sym c.octets_from-octets.ensures.octets))
    (ends-none q held given read done [] c.whole_steps-steps.result c.steps_len.result (whole k) c.if-steps-eq0.true
    c.requires.is_open c.requires.settled stands))

-- the octets that were held, the block that is ready, and the queue with them
abbrev read_of : After-self-10-1 → List ℕ
read_of c = drop c.self.inside.passed c.self.inside.held.octets

abbrev left_of : After-self-10-1 → List ℕ
left_of c = drop (length c.as_slice-2.result.now) c.self.inside.held.octets

abbrev ready_of : After-self-10-1 → List WindowBlock
ready_of c = map block_of (take 1 (set c.self.inside.candidates.items 0 c.decode_last.new.candidate))

abbrev after_of : After-self-10-1 → Queueing → Queueing
after_of c q = after_last q c.whole_steps-steps.result c.slip_at.result c.from.result
    (left_of c) (read_of c) (ready_of c)

is_last : (c : After-self-10-1) → IsLastBlock c.args.self.now c.whole_steps-steps.result c.steps_len.result
    c.unwrap_or-dropped.result (read_of c) (ready_of c) (block_of c.decode_last.new.candidate)
is_last c =
    let s = c.self.inside in
    let n = c.whole_steps-steps.result in
    let last = c.decode_last.new.candidate in
    record {
      one =
          ap (map block_of) (take-set_at s.candidates.items 0 1 last (omega arith)
          (omega (arith, s.candidates.ok.0, c.self.invariant)));
      whole = whole (goal.at.returns-clause-there c).After-steps_len;
      some = omega (arith, c.if-steps-eq0.false);
      drops = c.unwrap_or-dropped.ensures ∙ ap (λ (p : Queueing). unwrap_or p.dropped 0) c.self.view_is;
      dropped = c.decode_last.ensures.dropped;
      kept = c.decode_last.ensures.kept;
      is =
          subst (λ (p : Queueing). IsBlock p.windows.settings.rate p.windows.settings.invert
          p.windows.settings.keep p.windows.settings.ahead p.starts p.t n p.held (undropped (block_of last)))
          c.self.view_is
          (subst (λ (o : List ℕ). IsBlock s.settings.shape.rate s.settings.shape.invert s.settings.shape.keep
          s.settings.shape.ahead s.starts s.t n o (undropped (block_of last))) c.octets_from-octets.ensures.octets
          c.decode_last.ensures.block);
      read_is = ap (λ (p : Queueing). p.held) c.self.view_is;
    }

pub returns-clause-left : goal.returns-clause-left
returns-clause-left c = few (goal.at.returns-clause-left c).After-steps_len

pub returns-clause-ends : goal.returns-clause-ends
returns-clause-ends c = λ given done stands.
    let q = c.args.self.now in
    subst (λ (p : Queueing). QueueEndsFor (after_of c p) given (done ++ ready_of c)
    (length c.octets_from-octets.result.now - c.steps_len.result)) (sym c.self.view_is)
    (subst (λ (m : ℕ). QueueEndsFor (after_of c q) given (done ++ ready_of c) (m - c.steps_len.result))
    (ap (λ (p : Queueing). length p.held) (sym c.self.view_is) ∙ ap length (sym c.octets_from-octets.ensures.octets))
    (ends-one q _ _ _ _ _ _ (is_last c) (left_of c) given done c.slip_at.result c.from.result
    c.requires.is_open c.requires.settled c.slip_at.ensures.value c.from.ensures stands))

pub returns-clause-counted : goal.returns-clause-counted
returns-clause-counted c =
    let whole = whole (goal.at.returns-clause-counted c).After-steps_len in
    omega (
      arith,
      whole.is,
      whole.whole,
      steps_size-least c.args.self.now.windows.settings.rate c.args.self.now.t c.whole_steps-steps.result,
      length-drop (length c.as_slice-2.result.now) c.self.inside.held.octets,
      ap length c.as_slice-2.ensures.octets,
      ap (λ (q : Queueing). q.t) c.self.view_is,
    )

pub returns-clause-there : goal.returns-clause-there
returns-clause-there c = λ some.
    let last = is_last c in
    subst (λ (p : Queueing). IsThere (after_of c p)) (sym c.self.view_is)
    (last-there c.args.self.now _ _ _ _ _ _ last (left_of c) c.slip_at.result c.from.result
    (omega (
      arith,
      c.requires.few,
      last.whole.few,
      last.whole.most,
      steps_size-most c.args.self.now.windows.settings.rate c.args.self.now.t (c.whole_steps-steps.result + 1),
      c.self.invariant.0,
      ap (λ (p : Queueing). p.windows.settings.keep) c.self.view_is,
      ap (λ (p : Queueing). p.windows.settings.ahead) c.self.view_is,
    )))

pub returns-clause-read : goal.returns-clause-read
returns-clause-read c = λ some given done stands.
    subst (λ (p : Queueing). IsRead (after_of c p) given done) (sym c.self.view_is)
    (last-read c.args.self.now _ _ _ _ _ _ (is_last c) (left_of c) given done c.slip_at.result
    c.from.result c.requires.settled stands)
