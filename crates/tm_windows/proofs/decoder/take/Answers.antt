use Rattle.std.proofs.Common.{◌≡◌, ◌∙◌, ◌++◌, ◌+◌, ◌-◌, ℕ, false, List, [], arith, refl, ap, sym, subst, append_assoc, drop, length, length-drop, take}
use Rattle.std.proofs.lemmas.Bool.Decides.{nat_tests}
use Rattle.std.proofs.lemmas.List.{append-nil, take_all, take_rest}
use Rattle.tm_base.specs.SoftForm.{from_form}
use Rattle.tm_base.proofs.Handing.{HandedOver-append, HandedPart-after}
use Rattle.tm_viterbi.specs.WindowBlock.{WindowBlock}
use Rattle.tm_windows.specs.Queue.{QueueStandsFor}
use Rattle.tm_windows.specs.Windows.{Windows, AreFirstIn}
use Rattle.tm_windows.proofs.GivenPhase.{piece-first, piece-more, same-twice}
use Rattle.tm_windows.proofs.decoder.take.Goals as goal

pub loop-done-init : goal.loop-done-init
loop-done-init g c =
    let queue = c.args.queue.now in
    record {
      within = omega arith;
      is_open = c.requires.is_open;
      same = record { windows = refl; find = refl; most = refl; workers = refl };
      ended = refl;
      counted = omega arith;
      faults = refl;
      handed = (
        [],
        refl,
        λ given done stands.
            subst (λ (v : List ℕ). QueueStandsFor queue v (done ++ [])) (sym (append-nil given))
            (subst (λ (v : List WindowBlock). QueueStandsFor queue given v) (sym (append-nil done)) stands),
      );
    }

pub loop-done-preserved : goal.loop-done-preserved
loop-done-preserved g c =
    let l = c.loop-done in
    let i = l.invariant in
    let filled = c.fill-done in
    let n = filled.result in
    let closed = c.in-Ok.ensures in
    let now = c.hand_closed.new.queue in
    let more = i.handed.0 in
    let next = closed.ok.1 in
    let piece = c.args.piece.now in
    let rest : length (take (length piece - l.done) (drop l.done piece)) ≡ length piece - l.done =
    ap length (take_rest piece l.done) ∙ length-drop l.done piece in
    record {
      within = omega (arith, filled.ensures.count, rest, i.within);
      is_open = closed.ok.0;
      same = same-twice c.args.queue.now l.queue now i.same
          (same-twice l.queue filled.new.self now filled.ensures.same closed.same);
      ended = closed.ended ∙ filled.ensures.ended ∙ i.ended;
      counted = omega (arith, closed.counted, filled.ensures.counted, i.counted);
      faults = closed.cause.same ∙ i.faults;
      handed = (
        more ++ next.0,
        HandedOver-append _ c.args.blocks.now l.blocks c.hand_closed.new.blocks more next.0 i.handed.1 next.1,
        λ given done stands.
            subst (λ (v : List WindowBlock). QueueStandsFor now (given ++ take (l.done + n) piece) v)
            (append_assoc done more next.0)
            (subst (λ (v : List ℕ). QueueStandsFor now v ((done ++ more) ++ next.0)) (piece-more given piece l.done n)
            (next.2 _ (done ++ more) (filled.ensures.stands (given ++ take l.done piece) (done ++ more)
            (i.handed.2 given done stands)))),
      );
    }

pub returns-in-Err-clause-err : goal.returns-in-Err-clause-err
returns-in-Err-clause-err g c =
    let l = c.loop-done in
    let i = l.invariant in
    let filled = c.fill-done in
    let n = filled.result in
    let more = i.handed.0 in
    let failed = c.in-Err.ensures.err in
    let w = c.args.queue.now.windows in
    let piece = c.args.piece.now in (
      more ++ failed.0,
      HandedPart-after _ _ c.args.blocks.now l.blocks c.hand_closed.new.blocks more failed.0 i.handed.1 failed.1,
      λ given done stands.
          let octets = (given ++ take l.done piece)
          ++ from_form false (take n (take (length piece - l.done) (drop l.done piece))) in
          piece-first w given piece (l.done + n) (done ++ (more ++ failed.0))
          (subst (λ (v : List WindowBlock). AreFirstIn w (given ++ take (l.done + n) piece) v)
          (append_assoc done more failed.0)
          (subst (λ (v : List ℕ). AreFirstIn w v ((done ++ more) ++ failed.0)) (piece-more given piece l.done n)
          (subst (λ (v : Windows). AreFirstIn v octets ((done ++ more) ++ failed.0))
          (filled.ensures.same.windows ∙ i.same.windows)
          (failed.2 octets (done ++ more) (filled.ensures.stands (given ++ take l.done piece) (done ++ more)
          (i.handed.2 given done stands)))))),
    )

pub returns-clause-ok : goal.returns-clause-ok
returns-clause-ok g c =
    let l = c.loop-done in
    let i = l.invariant in
    let piece = c.args.piece.now in
    let all : take l.done piece ≡ piece =
    take_all l.done piece (grind (arith, nat_tests, c.loop-done-test.false, i.within)) in (
      i.is_open,
      (
        i.handed.0,
        i.handed.1,
        λ given done stands.
            subst (λ (v : List ℕ). QueueStandsFor l.queue (given ++ v) (done ++ i.handed.0)) all
            (i.handed.2 given done stands),
      ),
    )
