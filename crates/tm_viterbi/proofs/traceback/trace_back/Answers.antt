use Rattle.std.proofs.Common.{◌≡◌, ◌+◌, ◌-◌, ◌++◌, ◌∙◌, ℕ, List, ap, sym, arith, take, drop}
use mathlib.Core.List.{reverse}
use borrow.Rule.Slice.PartMut.{put_mid}
use Rattle.tm_viterbi.specs.Walk.{past_of, start_of}
use Rattle.tm_viterbi.proofs.StepsBack.{start_more, past_more, put_more}
use Rattle.tm_viterbi.proofs.traceback.trace_back.Goals as goal

pub loop-i-preserved : goal.loop-i-preserved
loop-i-preserved c =
    let i = c.loop-i.i in
    let j = i - 8 in
    let survivors = c.args.survivors.now in
    let piece = c.trace_eight-s.new.bits in
    let e : i ≡ j + 8 = omega (arith, c.loop-i-test.true) in
    let count : j + 8 - j ≡ 8 = omega arith in
    let chunk : take (j + 8 - j) (drop j survivors) ≡ take 8 (drop j survivors) =
    ap (λ (v : ℕ). take v (drop j survivors)) count in
    let start : c.trace_eight-s.result ≡ start_of (reverse (take 8 (drop j survivors))) c.loop-i.s =
    c.trace_eight-s.ensures.start ∙ ap (λ (v : List ℕ). start_of (reverse v) c.loop-i.s) chunk in
    let bits : piece ≡ reverse (past_of (reverse (take 8 (drop j survivors))) c.loop-i.s) = c.trace_eight-s.ensures.bits
    ∙ ap (λ (v : List ℕ). reverse (past_of (reverse v) c.loop-i.s)) chunk in
    let after = put_more c.loop-i.bits piece i j (j + 8 - j) e count (omega (arith, c.loop-i.invariant.within))
    (omega (arith, c.loop-i.invariant.within)) in
    record {
      register = c.trace_eight-s.ensures.small;
      within = omega (arith, c.loop-i.invariant.within);
      bits = c.loop-i.invariant.bits
          ∙ past_more survivors c.loop-i.bits
          (drop j (put_mid j (j + 8 - j) c.loop-i.bits piece)) piece i j c.loop-i.s e after bits
          ∙ ap (λ (v : ℕ). reverse (drop j (put_mid j (j + 8 - j) c.loop-i.bits piece)) ++ past_of
          (reverse (take j survivors)) v) (sym start);
      start = c.loop-i.invariant.start ∙ start_more survivors i j c.loop-i.s e
          ∙ ap (λ (v : ℕ). start_of (reverse (take j survivors)) v) (sym start);
    }
