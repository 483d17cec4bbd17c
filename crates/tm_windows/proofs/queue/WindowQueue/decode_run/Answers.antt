use Rattle.std.proofs.Common.{◌≡◌, ◌∙◌, ◌++◌, ◌∷◌, ◌+◌, ◌*◌, All, ℕ, List, Some, None, inr, sym, ap, subst, arith, drop, is_some, length, length-drop, map, take, unwrap_or}
use Rattle.std.specs.Vec.{with_items}
use Rattle.std.proofs.lemmas.List.{length-map, length-take-le, with_items_is}
use Rattle.tm_conv.specs.Path.{steps_size}
use Rattle.tm_viterbi.specs.WindowBlock.{WindowBlock}
use Rattle.tm_viterbi.specs.declared.window_decoder.WindowShape.{WindowShape}
use Rattle.tm_windows.specs.Candidates.{ClosedWith, HaveRoom, after_windows, block_of}
use Rattle.tm_windows.specs.declared.candidate.Candidate.{Candidate}
use Rattle.tm_windows.specs.Queue.{Queueing, AfterPhase, IsRead, IsThere}
use Rattle.tm_windows.specs.Windows.{dropped_at, undecided}
use Rattle.tm_windows.proofs.QueueRuns.{ClosesRun, IsCut, IsRun, after_run, decided_after, is_cut, is_decided, later-undropped_of, run-decoded, run-read, run-there, undecided-few}
use Rattle.tm_windows.proofs.FollowedRuns.{place_of}
use Rattle.tm_windows.proofs.queue.WindowQueue.decode_run.Given.{Over}
use Rattle.tm_windows.proofs.queue.WindowQueue.decode_run.Goals as goal

-- the run that is held
is_run : (g : Over) (c : goal.After-self-11-1 g) → IsRun c.args.self.now c.unwrap_or-dropped.result c.args.count
is_run g c =
    let s = c.args.self.now in
    record {
      dropped =
          is_decided s.dropped c.requires.decided.0 c.unwrap_or-dropped.result c.requires.decided.1
          (subst (λ (q : Queueing). c.unwrap_or-dropped.result ≡ unwrap_or q.dropped 0) c.self.view_is
          c.unwrap_or-dropped.ensures);
      some = c.requires.some.0;
      room = c.requires.room;
      undropped = c.requires.undropped;
      wide = omega (arith, c.self.invariant.0.0, ap (λ (q : Queueing). q.windows.settings.keep) c.self.view_is);
    }

-- its octets
held_is : (g : Over) (c : goal.After-self-11-1 g) → c.steps_len-size.result
    ≡ steps_size c.args.self.now.windows.settings.rate c.args.self.now.t
    (c.args.count * c.args.self.now.windows.settings.keep + c.args.self.now.windows.settings.ahead + 1)
held_is g c =
    subst (λ (q : Queueing). c.steps_len-size.result ≡ steps_size q.windows.settings.rate q.t
    (c.args.count * q.windows.settings.keep + q.windows.settings.ahead + 1)) c.self.view_is c.steps_len-size.ensures

size_is : (g : Over) (c : goal.After-self-11-1 g) → c.steps_len-size-2.result
    ≡ steps_size c.args.self.now.windows.settings.rate c.args.self.now.t
    (c.args.count * c.args.self.now.windows.settings.keep)
size_is g c =
    subst (λ (q : Queueing). c.steps_len-size-2.result ≡ steps_size q.windows.settings.rate q.t
    (c.args.count * q.windows.settings.keep)) c.self.view_is c.steps_len-size-2.ensures

cut : (g : Over) (c : goal.After-self-11-1 g)
    → IsCut c.args.self.now c.args.count c.steps_len-size.result c.steps_len-size-2.result
cut g c =
    let is = is_run g c in
    is_cut c.args.self.now c.args.count c.steps_len-size.result c.steps_len-size-2.result is.wide is.some is.room
    (held_is g c) (size_is g c)

-- the octets that are left, and those of the run
abbrev left_of : (g : Over) → goal.After-self-11-1 g → List ℕ
left_of g c = drop c.passed_by-self-inside.result c.self.inside.held.octets

abbrev read_of : (g : Over) → goal.After-self-11-1 g → List ℕ
read_of g c = drop c.self.inside.passed c.self.inside.held.octets

read_is : (g : Over) (c : goal.After-self-11-1 g) → read_of g c ≡ c.args.self.now.held
read_is g c = ap (λ (q : Queueing). q.held) c.self.view_is

left_is : (g : Over) (c : goal.After-self-11-1 g) → left_of g c ≡ drop c.steps_len-size-2.result c.args.self.now.held
left_is g c = c.passed_by-self-inside.ensures.octets ∙ ap (drop c.steps_len-size-2.result) (read_is g c)

left_few : (g : Over) (c : goal.After-self-11-1 g)
    → length (left_of g c) + c.steps_len-size-2.result ≡ length c.args.self.now.held
left_few g c =
    let are = cut g c in
    omega (
      arith,
      ap length (left_is g c),
      length-drop c.steps_len-size-2.result c.args.self.now.held,
      are.within,
      are.inside,
    )

pub returns-clause-shorter : goal.returns-clause-shorter
returns-clause-shorter g c = let are = cut g c in omega (arith, left_few g c, are.some)

pub returns-clause-counted : goal.returns-clause-counted
returns-clause-counted g c =
    let are = cut g c in
    omega (
      arith,
      left_few g c,
      are.long,
      ap (λ (q : Queueing). q.t) c.self.view_is,
      ap (λ (q : Queueing). c.args.count * q.windows.settings.keep) c.self.view_is,
    )

candidates_is : (g : Over) (c : goal.After-self-11-1 g)
    → (with_items c.self.inside.candidates c.decode_windows-self-inside.new.candidates).items
    ≡ c.decode_windows-self-inside.new.candidates
candidates_is g c =
    with_items_is c.self.inside.candidates c.decode_windows-self-inside.new.candidates
    (omega (arith, c.as_mut_slice-candidates.ensures.len))

pub invariant_of-self : goal.invariant_of-self
invariant_of-self g c =
    let s = c.self.inside in
    let i = c.self.invariant in
    let windows = c.decode_windows-self-inside in
    let are = cut g c in
    let decoders = with_items_is s.decoders windows.new.decoders (omega (arith, c.as_mut_slice-decoders.ensures.len)) in
    let wide = ap (λ (q : Queueing). c.args.count * q.windows.settings.keep) c.self.view_is in
    let decided : s.dropped ≡ Some c.requires.decided.0 =
    ap (λ (q : Queueing). q.dropped) c.self.view_is ∙ c.requires.decided.1 in
    let k = c.unwrap_or-dropped.result in
    let both = c.undecided-self-inside.ensures ∙ ap undecided c.is_some.ensures in (
      i.0,
      i.1,
      i.2,
      subst (λ (v : List WindowShape). All (λ d. d ≡ s.settings.shape) v) (sym decoders) windows.ensures.shape,
      subst (λ (v : List Candidate). HaveRoom (s.settings.shape.keep + s.settings.shape.ahead) v)
          (sym (candidates_is g c)) windows.ensures.bits,
      windows.ensures.small,
      i.6,
      λ none. inr (c.undecided-self-inside.ensures ∙ ap undecided (c.is_some.ensures ∙ ap is_some none)),
      λ find none. absurd (let both : Some c.requires.decided.0 ≡ None = sym decided ∙ i.8 find none in cc),
      omega (arith, i.9, c.slip_at.ensures.small, are.wide, wide),
      omega (arith, ap (λ (q : Queueing). q.most) c.self.view_is, c.requires.some.1),
      λ count is. undecided-few (is_some s.seen) count (sym both ∙ is),
      omega (
        arith,
        i.12,
        i.11 k (ap (λ (q : Queueing). q.dropped) c.self.view_is ∙ (is_run g c).dropped),
        c.from.ensures,
        are.wide,
        wide,
      ),
      i.13,
      i.14,
      omega (arith, c.passed_by-self-inside.ensures.inside),
      c.passed_by-self-inside.ensures.inside.1,
    )

pub returns-clause-count : goal.returns-clause-count
returns-clause-count g c =
    let new = c.decode_windows-self-inside.new.candidates in
    let count = c.args.count in
    ap (λ (v : List Candidate). length (map block_of (take count v))) (candidates_is g c)
    ∙ length-map (take count new) block_of
    ∙ length-take-le count new
    (omega (
      arith,
      c.as_mut_slice-candidates.ensures.len,
      ap (λ (q : Queueing). q.most) c.self.view_is,
      c.requires.some.1,
    ))

pub returns-clause-later : goal.returns-clause-later
returns-clause-later g c =
    let blocks = c.decode_windows-self-inside.ensures.blocks in
    later-undropped_of _ c.unwrap_or-dropped.result _ _ blocks.0 blocks.1 _
    (ap (λ (u : List Candidate). map block_of (take c.args.count u)) (candidates_is g c) ∙ blocks.2) blocks.3

-- the candidates' blocks, of windows that the octets held close
closes : (g : Over) (c : goal.After-self-11-1 g)
    → (let blocks = c.decode_windows-self-inside.ensures.blocks in ClosesRun c.args.self.now c.args.count
    c.steps_len-size.result (blocks.0 ∷ blocks.1) c.decode_windows-self-inside.result)
closes g c =
    let v = c.self.inside in
    let shape = v.settings.shape in
    let count = c.args.count in
    let m = c.steps_len-size.result in
    let next = c.decode_windows-self-inside.result in
    let blocks = c.decode_windows-self-inside.ensures.blocks in
    subst (λ (q : Queueing). ClosesRun q count m (blocks.0 ∷ blocks.1) next) c.self.view_is
    (subst (λ (o : List ℕ). ClosedWith shape (place_of v.starts v.t (take m o)) (blocks.0 ∷ blocks.1)
    (after_windows shape v.t (take m o) count next)) c.octets_from.ensures.octets blocks.3)

-- its blocks, and the queue with them
abbrev ready_of : (g : Over) → goal.After-self-11-1 g → List WindowBlock
ready_of g c = map block_of
    (take c.args.count (with_items c.self.inside.candidates c.decode_windows-self-inside.new.candidates).items)

abbrev after_of : (g : Over) → goal.After-self-11-1 g → Queueing → Queueing
after_of g c q = after_run q c.args.count c.slip_at.result c.from.result c.decode_windows-self-inside.result
    c.undecided-self-inside.result (left_of g c) (read_of g c) (ready_of g c)

ready_are : (g : Over) (c : goal.After-self-11-1 g)
    → (let blocks = c.decode_windows-self-inside.ensures.blocks in
    ready_of g c ≡ dropped_at c.unwrap_or-dropped.result blocks.0 ∷ blocks.1)
ready_are g c =
    ap (λ (u : List Candidate). map block_of (take c.args.count u)) (candidates_is g c)
    ∙ c.decode_windows-self-inside.ensures.blocks.2

pub returns-clause-there : goal.returns-clause-there
returns-clause-there g c =
    let blocks = c.decode_windows-self-inside.ensures.blocks in
    subst (λ (q : Queueing). IsThere (after_of g c q)) (sym c.self.view_is)
    (run-there c.args.self.now c.unwrap_or-dropped.result c.args.count c.steps_len-size.result c.slip_at.result c.from.result c.decode_windows-self-inside.result c.undecided-self-inside.result
    (left_of g c) (read_of g c) blocks.0 blocks.1 (ready_of g c) (is_run g c) (read_is g c)
    (ready_are g c) (returns-clause-count g c) (closes g c) (omega (arith, c.requires.few)))

pub returns-clause-read : goal.returns-clause-read
returns-clause-read g c = λ given done stands.
    let s = c.args.self.now in
    let k = c.unwrap_or-dropped.result in
    let blocks = c.decode_windows-self-inside.ensures.blocks in
    let run = is_run g c in
    subst (λ (q : Queueing). IsRead (after_of g c q) given done) (sym c.self.view_is)
    (run-read s given done k c.args.count c.steps_len-size.result c.slip_at.result c.from.result
    c.decode_windows-self-inside.result c.undecided-self-inside.result (left_of g c) (read_of g c)
    blocks.0 blocks.1 (ready_of g c) run (read_is g c) (ready_are g c) (closes g c)
    (decided_after s given done k run.dropped stands))

pub returns-clause-stands : goal.returns-clause-stands
returns-clause-stands g c = λ given done stands.
    let s = c.args.self.now in
    let k = c.unwrap_or-dropped.result in
    let left = left_of g c in
    let blocks = c.decode_windows-self-inside.ensures.blocks in
    let cut_off : left ≡ drop (steps_size s.windows.settings.rate s.t (c.args.count * s.windows.settings.keep)) s.held =
    left_is g c ∙ ap (λ (n : ℕ). drop n s.held) (size_is g c) in
    let undecided_is = subst (λ (q : Queueing). c.undecided-self-inside.result ≡ undecided (is_some q.windows.seen))
    c.self.view_is (c.undecided-self-inside.ensures ∙ ap undecided c.is_some.ensures) in
    let run = is_run g c in
    inr (subst (λ (q : Queueing). AfterPhase (after_of g c q) given (done ++ ready_of g c)) (sym c.self.view_is)
    (run-decoded s given done k c.args.count c.steps_len-size.result c.slip_at.result c.from.result
    c.decode_windows-self-inside.result c.undecided-self-inside.result left (read_of g c) blocks.0 blocks.1
    (ready_of g c) run (held_is g c) cut_off c.slip_at.ensures.value c.from.ensures undecided_is (ready_are g c)
    (returns-clause-count g c) (closes g c) (decided_after s given done k run.dropped stands)))
