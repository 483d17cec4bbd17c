use Rattle.std.proofs.Common.{◌≡◌, ◌<◌, ◌∙◌, sym, ap, subst, arith, refl, ℕ, List, length, map, take}
use Rattle.tm_viterbi.specs.Due.{Place}
use Rattle.tm_windows.specs.Candidates.{ClosedWith, after_windows, block_of, run_place}
use Rattle.tm_windows.specs.declared.candidate.Candidate.{Candidate}
use Rattle.tm_windows.proofs.WindowRuns.{HasNext, Settles, from_first, from_next, has_next, place_there, settles-again, settles-kept, settled_next}
use Rattle.tm_windows.proofs.run.settle.Goals as goal
use Rattle.tm_windows.proofs.run.settle.Goals.{then-not-is_from, else-not-is_from}

pub loop-j-init : goal.loop-j-init
loop-j-init c =
    record {
      shape = c.requires.shape;
      here = from_first c.args.run.now;
      bits = c.requires.bits;
      left = c.requires.candidates;
      settled = refl;
    }

-- there is the next window
there : (c : goal.After-index-candidates-j-in-loop-j) → HasNext c.loop-j.here
there c =
    let l = c.loop-j in
    has_next c.args.run.now l.here l.j (length c.args.candidates.now) l.invariant.here
    (omega (arith, c.loop-j-test.true, l.auto.j-end)) c.requires.room c.requires.few

pub after_first-here-requires-clause-within : goal.after_first-here-requires-clause-within
after_first-here-requires-clause-within c = (there c).kept

-- the candidate of this window, kept or decoded again
one : (c : goal.After-after_first-here) → (x : Candidate) × (c.if-not-is_from.decoder ≡ c.args.run.now.shape)
    × Settles c.args.run.now c.loop-j.here c.loop-j.j (length c.args.candidates.now) c.loop-j.candidates
    c.if-not-is_from.candidates x
one c =
    let run = c.args.run.now in
    let l = c.loop-j in
    let i = l.invariant in
    let n = length c.args.candidates.now in
    let lt : l.j < n = omega (arith, c.loop-j-test.true, l.auto.j-end) in
    let long : l.j < length l.candidates = omega (arith, lt, l.auto.candidates) in
    elim c.if-not-is_from.branch as (λ _. (x : Candidate) × (c.if-not-is_from.decoder ≡ run.shape)
    × Settles run l.here l.j n l.candidates c.if-not-is_from.candidates x) [
      | then-not-is_from w ↦ (
        w.decode_first.new.candidate,
        w.decoder-is ∙ w.decode_first.ensures.same ∙ i.here.shape,
        subst (λ (l : List Candidate). Settles run c.loop-j.here c.loop-j.j n c.loop-j.candidates l
            w.decode_first.new.candidate) (sym w.candidates-is)
            (settles-again run l.here l.j n l.candidates w.decode_first.new.candidate
            w.index-candidates-j-then-not-is_from.result long i.bits i.left
            w.decode_first.ensures.starts w.decode_first.ensures.candidate w.decode_first.ensures.bits),
      )
      | else-not-is_from w ↦ (
        c.index-candidates-j.result,
        w.decoder-is ∙ i.shape,
        subst (λ (l : List Candidate). Settles run c.loop-j.here c.loop-j.j n c.loop-j.candidates l
            c.index-candidates-j.result) (sym w.candidates-is)
            (settles-kept run l.here l.j n l.candidates c.index-candidates-j.result i.here lt long i.bits i.left
            c.index-candidates-j.is
            (ap (λ (x : Candidate). x.starts) c.index-candidates-j.is ∙ c.is_from.ensures.0 w.if-not-is_from.false)),
      )
    ]

pub loop-j-preserved : goal.loop-j-preserved
loop-j-preserved c =
    let run = c.args.run.now in
    let l = c.loop-j in
    let next = c.after_first-here.ensures in
    let x = one c in
    record {
      shape = x.1;
      here = from_next run l.here c.after_first-here.result l.j l.invariant.here next.shape next.t next.octets;
      bits = x.2.bits;
      left = x.2.left;
      settled =
          settled_next run l.here c.after_first-here.result l.j (length c.args.candidates.now) l.candidates
          c.if-not-is_from.candidates x.0 c.index-candidates-j-in-loop-j.result l.invariant.here.shape x.2
          next.starts next.t next.octets l.invariant.settled;
    }

pub returns-clause-settled : goal.returns-clause-settled
returns-clause-settled c =
    let run = c.args.run.now in
    let l = c.loop-j in
    let n = length c.args.candidates.now in
    let all : l.j ≡ n = omega (arith, c.loop-j-test.false, l.auto.j-end) in
    subst (λ (m : ℕ). ClosedWith run.shape (run_place run) (map block_of (take m l.candidates))
    (after_windows run.shape run.t run.octets.now n l.here.starts)) all
    (subst (λ (p : Place). ClosedWith run.shape (run_place run) (map block_of (take l.j l.candidates)) p)
    (place_there run l.here l.j n l.invariant.here all) l.invariant.settled)
