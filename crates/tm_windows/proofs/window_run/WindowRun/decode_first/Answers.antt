use Rattle.std.proofs.Common.{◌≡◌, ◌+◌, ◌∙◌, ℕ, List, ap, subst, arith, length, sym, take}
use Rattle.std.proofs.lemmas.List.{take_all, with_items_is}
use Rattle.std.specs.Vec.{with_items}
use Rattle.tm_conv.specs.Path.{steps_size}
use Rattle.tm_conv.proofs.Sizes.{steps_size-le}
use Rattle.tm_viterbi.specs.Blocks.{IsBlock, window_steps, kept_steps}
use Rattle.tm_viterbi.specs.declared.window_decoder.WindowShape.{WindowShape}
use Rattle.tm_viterbi.proofs.Closing.{full_kept}
use Rattle.tm_windows.proofs.window_run.WindowRun.decode_first.Goals as goal

pub decode-candidate-requires-clause-octets : goal.decode-candidate-requires-clause-octets
decode-candidate-requires-clause-octets c =
    let s = c.args.self.now.shape in
    let n = length c.as_mut_slice-bits.result.now in
    let long : n ≡ s.keep + s.ahead = omega (arith, c.as_mut_slice-bits.ensures.len, c.requires.bits) in
    let same : steps_size c.args.decoder.now.rate c.args.self.now.t n
    ≡ steps_size s.rate c.args.self.now.t (s.keep + s.ahead)
    = ap (λ (w : WindowShape). steps_size w.rate c.args.self.now.t n) c.requires.shape
    ∙ ap (λ (m : ℕ). steps_size s.rate c.args.self.now.t m) long in
    omega (
      arith,
      same,
      c.requires.room,
      steps_size-le s.rate c.args.self.now.t (s.keep + s.ahead) (s.keep + s.ahead + 1) (omega arith),
    )

pub returns-clause-candidate : goal.returns-clause-candidate
returns-clause-candidate c =
    let s = c.args.self.now.shape in
    let d = c.args.decoder.now in
    let path = c.decode-candidate.result in
    let bits = c.args.candidate.now.bits in
    let new = c.decode-candidate.new.bits in
    let n = length c.as_mut_slice-bits.result.now in
    let long : n ≡ s.keep + s.ahead = omega (arith, c.as_mut_slice-bits.ensures.len, c.requires.bits) in
    let all = s.keep + s.ahead + 1 in
    let P : WindowShape → ℕ → List ℕ → Type 0
    = λ w m v. IsBlock w.rate w.invert w.keep w.ahead c.args.self.now.starts c.args.self.now.t all
    c.args.self.now.octets.now
    (record {
      start = path.start;
      steps = m;
      kept = s.keep;
      metric = path.metric;
      bits = v;
      end_state = path.end_state;
      dropped = 0;
    }) in
    let steps : n ≡ window_steps d.keep d.ahead all = omega (
      arith,
      long,
      ap (λ (w : WindowShape). w.keep) c.requires.shape,
      ap (λ (w : WindowShape). w.ahead) c.requires.shape,
    ) in
    let kept : s.keep ≡ kept_steps d.keep d.ahead all = full_kept s.keep s.ahead
    ∙ ap (λ (w : WindowShape). kept_steps w.keep w.ahead all) (sym c.requires.shape) in
    let written = with_items_is bits new (c.decode-candidate.auto.bits ∙ ap length c.as_mut_slice-bits.ensures.value
    ∙ sym bits.ok.0) in
    let whole : length new ≡ s.keep + s.ahead = c.decode-candidate.auto.bits ∙ long in
    let first : take (s.keep + s.ahead) (with_items bits new).items ≡ new =
    ap (take (s.keep + s.ahead)) written ∙ take_all (s.keep + s.ahead) new (omega (arith, whole)) in
    record {
      room = c.requires.room;
      is_block = subst (λ (v : List ℕ). P s (s.keep + s.ahead) v) (sym first)
          (subst (λ (m : ℕ). P s m new) long (subst (λ (w : WindowShape). P w n new) c.requires.shape
          (c.decode-candidate.ensures.block all steps kept)));
    }

pub invariant_of-candidate : goal.invariant_of-candidate
invariant_of-candidate c =
    let keep = ap (λ (w : WindowShape). w.keep) c.requires.shape in
    let ahead = ap (λ (w : WindowShape). w.ahead) c.requires.shape in
    record {
      within = omega (arith, c.requires.bits);
      few = (omega (arith, keep, ahead, c.decode-candidate.ensures.small), omega arith);
    }
