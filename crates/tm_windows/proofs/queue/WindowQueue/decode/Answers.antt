use Rattle.std.proofs.Common.{◌≡◌, ◌++◌, [], ℕ, List, sym, subst}
use Rattle.std.proofs.lemmas.List.{append-nil}
use Rattle.tm_viterbi.specs.WindowBlock.{WindowBlock}
use Rattle.tm_windows.specs.Queue.{Queueing, QueueStandsFor}
use Rattle.tm_windows.specs.contracts.queue.WindowQueue.{the_view}
use Rattle.tm_windows.specs.declared.queue.WindowQueue.TheInside.{Inside}
use Rattle.tm_windows.proofs.QueueRuns.{IsUndecided, stands-ready, undecided-open}
use Rattle.tm_windows.proofs.queue.WindowQueue.decode.Goals as goal

-- what it stands for with no block ready
still : (v : Inside) (q : Queueing) (given : List ℕ) (done : List WindowBlock) (by : ℕ) → the_view v ≡ q
    → QueueStandsFor q given done → QueueStandsFor (record (the_view v) { ready = []; by = by }) given done
still v q given done by is stands =
    stands-ready (the_view v) given done [] by (subst (λ (u : Queueing). QueueStandsFor u given done) (sym is) stands)

none-ready : (q : Queueing) (given : List ℕ) (done : List WindowBlock) → QueueStandsFor q given done
    → QueueStandsFor q given (done ++ [])
none-ready q given done stands =
    subst (λ (b : List WindowBlock). QueueStandsFor q given b) (sym (append-nil done)) stands

pub returns-then-not-is_decided-clause-stands : goal.returns-then-not-is_decided-clause-stands
returns-then-not-is_decided-clause-stands g c = λ given done stands.
    none-ready _ given done (still c.self-2.inside c.decide-is_decided.new.self given done c.share-workers.result
    c.self-2.view_is (c.decide-is_decided.ensures.stands given done stands))

pub returns-then-not-is_decided-clause-is_open : goal.returns-then-not-is_decided-clause-is_open
returns-then-not-is_decided-clause-is_open g c = λ _.
    let looks = c.self-2.invariant.6 in
    let undecided = subst (λ (q : Queueing). IsUndecided q) (sym c.self-2.view_is)
    (c.decide-is_decided.ensures.undecided c.if-not-is_decided.true) in
    undecided-open _ (λ steps is. ((looks steps is).0, (looks steps is).2)) undecided

pub returns-clause-stands : goal.returns-clause-stands
returns-clause-stands g c = λ given done stands.
    c.decode_run.ensures.stands given done (still c.self-2.inside c.decide-is_decided.new.self given done
    c.share-workers.result c.self-2.view_is (c.decide-is_decided.ensures.stands given done stands))

pub returns-clause-read : goal.returns-clause-read
returns-clause-read g c = λ some given done stands.
    c.decode_run.ensures.read given done (still c.self-2.inside c.decide-is_decided.new.self given done
    c.share-workers.result c.self-2.view_is (c.decide-is_decided.ensures.stands given done stands))
