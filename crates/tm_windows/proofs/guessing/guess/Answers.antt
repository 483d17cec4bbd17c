use Rattle.std.proofs.Common.{◌≡◌, ◌+◌, ◌-◌, ◌∙◌, ℕ, ap, arith, length, take, length-drop}
use Rattle.std.proofs.lemmas.List.{length-take-le, take_rest}
use Rattle.tm_conv.specs.Path.{steps_size}
use Rattle.tm_conv.proofs.Sizes.{steps_size-add}
use Rattle.tm_viterbi.specs.declared.window_decoder.WindowShape.{WindowShape}
use Rattle.tm_windows.proofs.guessing.guess.Goals as goal

pub decode-path-requires-clause-octets : goal.decode-path-requires-clause-octets
decode-path-requires-clause-octets c =
    let s = c.args.shape in
    let before = c.min-before.result in
    let after = c.min-after.result in
    let first = c.args.t - before in
    let octets = c.args.octets.now in
    let bits = c.deref_mut.result.now in
    let prefix = c.args.at - c.steps_len-size.result in
    let count = before + after - 0 in
    let n = length (take count bits) in
    let long : n ≡ before + after = length-take-le count bits
    (omega (arith, c.deref_mut.ensures.len, c.requires.bits, c.min-before.ensures, c.min-after.ensures)) ∙ omega arith
    in
    let same : steps_size c.args.decoder.now.rate first n ≡ steps_size s.rate first (before + after)
    =
    ap (λ (w : WindowShape). steps_size w.rate first n) c.requires.shape
    ∙ ap (λ (m : ℕ). steps_size s.rate first m) long in
    let there : steps_size s.rate (first + before) after ≡ steps_size s.rate c.args.t after =
    ap (λ (u : ℕ). steps_size s.rate u after) (omega (arith, c.if-t-before.false)) in
    omega (
      arith,
      same,
      there,
      steps_size-add s.rate first before after,
      c.steps_len-size.ensures,
      c.steps_len-more.ensures,
      c.if-at-size.false,
      c.if-octets-at.false,
      c.if-octets-at-2.false,
      ap length (take_rest octets prefix),
      length-drop prefix octets,
    )
