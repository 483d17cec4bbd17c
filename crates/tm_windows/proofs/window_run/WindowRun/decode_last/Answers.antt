use Rattle.std.proofs.Common.{◌≡◌, ◌+◌, ◌-◌, ◌≤◌, ◌∙◌, ℕ, List, ap, subst, arith, length, sym, take}
use borrow.Rule.Slice.PartMut.{put_mid, same_len_mid}
use Rattle.std.proofs.lemmas.List.{length-take-le, with_items_is}
use Rattle.std.proofs.lemmas.Slice.{take-put_mid}
use Rattle.std.specs.Vec.{with_items}
use Rattle.tm_viterbi.specs.Blocks.{IsBlock}
use Rattle.tm_viterbi.specs.WindowBlock.{undropped_block}
use Rattle.tm_viterbi.specs.declared.window_decoder.WindowShape.{WindowShape}
use Rattle.tm_viterbi.proofs.WholeBlocks.{last_kept}
use Rattle.tm_windows.proofs.window_run.WindowRun.decode_last.Goals as goal

pub returns-clause-block : goal.returns-clause-block
returns-clause-block c =
    let s = c.args.self.now.shape in
    let d = c.args.decoder.now in
    let n : ℕ = c.args.steps in
    let bits = c.args.candidate.now.bits in
    let before = c.deref_mut.result.now in
    let path = c.decode-candidate.result in
    let new = c.decode-candidate.new.bits in
    let all = put_mid 0 (n - 0) before new in
    let cut : length (take (n - 0) before) ≡ n = length-take-le (n - 0) before
    (omega (arith, c.deref_mut.ensures.len, c.requires.bits, c.requires.steps)) ∙ omega arith in
    let first : take n (with_items bits all).items ≡ new =
    ap (take n) (with_items_is bits all
    (same_len_mid 0 (n - 0) before new c.decode-candidate.auto.bits ∙ c.deref_mut.ensures.len))
    ∙ take-put_mid 0 (n - 0) before new n (omega (arith, cut, c.decode-candidate.auto.bits)) (omega arith) in
    let P : WindowShape → ℕ → List ℕ → Type 0
    = λ w m v. IsBlock w.rate w.invert w.keep w.ahead c.args.self.now.starts c.args.self.now.t n
    c.args.self.now.octets.now (undropped_block path.start m n path.metric v path.end_state) in
    let keep = ap (λ (w : WindowShape). w.keep) c.requires.shape in
    let ahead = ap (λ (w : WindowShape). w.ahead) c.requires.shape in
    let few : n ≤ d.keep + d.ahead = omega (arith, keep, ahead, c.requires.steps) in
    subst (λ (v : List ℕ). P s n v) (sym first)
    (subst (λ (m : ℕ). P s m new) cut
    (subst (λ (w : WindowShape). P w (length (take (n - 0) before)) new) c.requires.shape
    (c.decode-candidate.ensures.block n (omega (arith, cut, few)) (last_kept d.keep d.ahead n few))))
