use Rattle.std.proofs.Common.{◌≡◌, ◌∙◌, ◌++◌, ◌+◌, ℕ, List, ◌<◌, arith, sym, ap, subst, drop, length, take, map, set, get_or, vec_len}
use Rattle.std.proofs.lemmas.List.Elements.{All-take}
use Rattle.std.proofs.lemmas.List.{get_or_append_left, length-set, length-take-le, set-append_left, take_all, take_at}
use Rattle.tm_viterbi.specs.WindowBlock.{WindowBlock}
use Rattle.tm_windows.specs.Candidates.{ClosedWith, after_windows, block_of, run_place}
use Rattle.tm_windows.specs.declared.candidate.Candidate.{Candidate}
use Rattle.tm_windows.proofs.QueueRuns.{dropped_first}
use Rattle.tm_windows.proofs.run.decode_windows.Goals as goal

-- the first candidates, of which number 0 is another one now
changed : (first others : List Candidate) (count : ℕ) (d : Candidate) → length first ≡ count → 0 < count
    → take count (set (first ++ others) 0 d) ≡ set first 0 d
changed first others count d long some =
    ap (take count) (set-append_left first others 0 d (omega arith))
    ∙ take_at (set first 0 d) others count (length-set first 0 d ∙ long)

pub returns-clause-blocks : goal.returns-clause-blocks
returns-clause-blocks g c =
    let run = c.args.run.now in
    let count = c.args.count in
    let first = c.settle-next.new.candidates in
    let others = drop count c.args.candidates.now in
    let one = c.index-candidates-0.result in
    let cut : length (take count c.args.candidates.now) ≡ count = length-take-le count c.args.candidates.now
    (omega (arith, c.requires.count)) in
    let old : length c.decode.new.candidates ≡ count = omega (arith, cut) in
    let long : length first ≡ count = omega (arith, old) in
    let next = c.settle-next.result in
    let is : one ≡ get_or first 0 one =
    c.index-candidates-0.is ∙ get_or_append_left first others one 0 (omega (arith, long, c.requires.count)) in
    let are = dropped_first first c.args.dropped one _ (omega (arith, long, c.requires.count)) is
    (ap (λ (v : Candidate). record (block_of v) { dropped = c.args.dropped }) (sym c.index-candidates-0.is)) in
    let closes = subst (λ (n : ℕ). ClosedWith run.shape (run_place run) (map block_of (take n first))
    (after_windows run.shape run.t run.octets.now n next)) old c.settle-next.ensures.settled in (
      are.first,
      are.others,
      ap (map block_of) (changed first others count _ long c.requires.count.0) ∙ are.after,
      subst (λ (v : List WindowBlock). ClosedWith run.shape (run_place run) v
          (after_windows run.shape run.t run.octets.now count next))
          (ap (map block_of) (take_all count first (omega (arith, long))) ∙ are.before) closes,
    )

pub decode-requires-clause-bits : goal.decode-requires-clause-bits
decode-requires-clause-bits g c =
    let s = c.args.run.now.shape in
    All-take (λ (x : Candidate). vec_len x.bits ≡ s.keep + s.ahead) c.args.count _ c.requires.bits
