use Rattle.std.proofs.Common.{◌≡◌, ◌∙◌, ◌++◌, List, [], arith, ap, subst, append_assoc}
use Rattle.std.proofs.lemmas.List.{append-nil, nil_from_length}
use Rattle.std.proofs.lemmas.Bool.Decides.{nat_tests}
use Rattle.tm_base.proofs.Handing.{HandedOver-append, HandedPart-after}
use Rattle.tm_viterbi.specs.WindowBlock.{WindowBlock}
use Rattle.tm_windows.specs.Queue.{QueueStandsFor}
use Rattle.tm_windows.specs.Windows.{Windows, AreFirstIn}
use Rattle.tm_windows.proofs.GivenPhase.{given-first, same-twice}
use Rattle.tm_windows.proofs.decoder.hand_closed.Goals as goal

pub loop-queue-preserved : goal.loop-queue-preserved
loop-queue-preserved g c =
    let i = c.loop-queue.invariant in
    let next = c.decode.ensures in
    let now = c.decode.new.self in
    let more = i.handed.0 in
    record {
      same = same-twice c.args.queue.now c.loop-queue.queue now i.same next.same;
      ended = next.ended ∙ i.ended;
      counted = omega (arith, next.counted, i.counted);
      faults = c.in-Ok.ensures.cause.same ∙ i.faults;
      handed = (
        more ++ now.ready,
        HandedOver-append _ c.args.blocks.now c.loop-queue.blocks c.hand.new.blocks more now.ready i.handed.1
            c.in-Ok.ensures.ok,
        λ given done stands.
            subst (λ (v : List WindowBlock). QueueStandsFor now given v) (append_assoc done more now.ready)
            (next.stands given (done ++ more) (i.handed.2 given done stands)),
      );
    }

pub returns-in-Err-clause-err : goal.returns-in-Err-clause-err
returns-in-Err-clause-err g c =
    let i = c.loop-queue.invariant in
    let now = c.decode.new.self in
    let more = i.handed.0 in
    let same = same-twice c.args.queue.now c.loop-queue.queue now i.same c.decode.ensures.same in (
      more ++ now.ready,
      HandedPart-after _ _ c.args.blocks.now c.loop-queue.blocks c.hand.new.blocks more now.ready i.handed.1
          c.in-Err.ensures.err,
      λ given done stands.
          subst (λ (w : Windows). AreFirstIn w given (done ++ (more ++ now.ready))) same.windows
          (given-first now given (done ++ (more ++ now.ready)) (same.find ∙ c.requires.given_phase)
          (subst (λ (v : List WindowBlock). QueueStandsFor now given v) (append_assoc done more now.ready)
          (c.decode.ensures.stands given (done ++ more) (i.handed.2 given done stands)))),
    )

pub returns-clause-ok : goal.returns-clause-ok
returns-clause-ok g c =
    let i = c.loop-queue.invariant in
    let next = c.decode.ensures in
    let now = c.decode.new.self in
    let more = i.handed.0 in
    let zero : c.decode.result ≡ 0 = grind (arith, nat_tests, c.loop-queue-test.false) in
    let none : now.ready ≡ [] = nil_from_length now.ready (omega (arith, next.count, zero)) in (
      next.is_open zero,
      (
        more,
        i.handed.1,
        λ given done stands.
            subst (λ (v : List WindowBlock). QueueStandsFor now given v)
            (ap (λ (v : List WindowBlock). (done ++ more) ++ v) none ∙ append-nil (done ++ more))
            (next.stands given (done ++ more) (i.handed.2 given done stands)),
      ),
    )
