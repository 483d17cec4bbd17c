use Rattle.std.proofs.Common.{◌≡◌, ◌∙◌, ◌<◌, ◌≤◌, ◌+◌, ◌-◌, ℕ, List, Option, Some, refl, sym, ap, subst, arith, length, take}
use Rattle.std.specs.List.{All}
use Rattle.std.proofs.lemmas.List.{length-take-le}
use Rattle.std.proofs.lemmas.List.Elements.{All-from_get_or, All-take}
use Rattle.tm_conv.specs.Best.{IsBest}
use Rattle.tm_conv.specs.Cost.{cost}
use Rattle.tm_conv.specs.Path.{path, steps_size}
use Rattle.tm_conv.proofs.Sizes.{steps_size-most}
use Rattle.tm_viterbi.specs.Blocks.{IsBlock}
use Rattle.tm_viterbi.specs.Overlap.{IsPathFrom}
use Rattle.tm_viterbi.specs.Starts.{starts_from}
use Rattle.tm_viterbi.specs.Totals.{AreFirsts}
use Rattle.tm_viterbi.specs.WindowBlock.{undropped_block}
use Rattle.tm_viterbi.specs.declared.window_decoder.WindowShape.{WindowShape}
use Rattle.tm_viterbi.proofs.Final.{some_start}
use Rattle.tm_viterbi.proofs.Overlap.{path_from_any, path_from_firsts}
use Rattle.tm_viterbi.proofs.window_decoder.WindowDecoder.decode.Goals as goal
use Rattle.tm_viterbi.proofs.window_decoder.WindowDecoder.decode.Goals.{in-Some+then-goes_on+else-path-register, in-Some+else-goes_on, in_default}

pub returns-then-path-register-clause-block : goal.returns-then-path-register-clause-block
returns-then-path-register-clause-block c remaining steps kept =
    let shape : WindowShape = c.self.inside.shape in
    let before : List ℕ = c.self.inside.pass.before in
    let starts = c.args.starts in
    let t : ℕ = c.args.t in
    let n : ℕ = length c.args.bits.now in
    let octets : List ℕ = c.args.octets.now in
    let piece : List ℕ = take c.steps_len-size.result octets in
    let found = c.finish-path.result in
    let bits : List ℕ = c.finish-path.new.bits in
    let viewed : steps_size shape.rate t n ≡ steps_size c.args.self.now.rate t n =
    ap (λ (w : WindowShape). steps_size w.rate t n) c.self.view_is in
    let long : length piece ≡ steps_size shape.rate t n =
    length-take-le c.steps_len-size.result octets (omega (arith, c.steps_len-size.ensures, viewed, c.requires.octets))
    ∙ c.steps_len-size.ensures in
    let there : IsPathFrom shape.rate shape.invert t n before piece found.start bits found.metric =
    subst (λ (m : ℕ). IsPathFrom shape.rate shape.invert t m before piece found.start bits found.metric)
    c.finish-path.auto.bits
    (subst (λ (u : ℕ). IsPathFrom shape.rate shape.invert u (length bits) before piece found.start bits found.metric)
    (c.if-goes_on.ensures.place refl) c.finish-path.ensures.path) in
    let best = path_from_any shape.rate shape.invert t n before piece found.start bits found.metric long there in
    let from : Some found.start ≡ starts = ap (λ (r : ℕ). Some r) c.if-path-register.true ∙ sym c.in-Some.is in
    let P : List ℕ → Option ℕ → Type 0 = λ v o. IsBest (starts_from o) shape.rate shape.invert t v found.start bits
    × (found.metric ≡ cost (path shape.rate shape.invert t found.start bits) v) in
    let both = subst (λ (v : List ℕ). P v starts) (ap (λ (m : ℕ). take m octets) c.steps_len-size.ensures)
    (subst (λ (o : Option ℕ). P piece o) from best) in
    subst (λ (w : WindowShape). IsBlock w.rate w.invert c.args.self.now.keep c.args.self.now.ahead starts t remaining
    octets (undropped_block found.start n c.args.kept found.metric bits found.end_state)) c.self.view_is
    (record {
      steps = steps;
      kept = kept;
      best = both.0;
      metric = both.1;
      end_state = c.finish-path.ensures.end_state;
      dropped = refl;
    })

pub finish-requires-clause-overlap : goal.finish-requires-clause-overlap
finish-requires-clause-overlap c = c.begin.ensures.overlap c.self.inside.shape.rate c.self.inside.shape.invert

pub returns-clause-block : goal.returns-clause-block
returns-clause-block c remaining steps kept =
    let shape : WindowShape = c.self.inside.shape in
    let before : List ℕ = c.begin.new.self.before in
    let starts = c.args.starts in
    let t : ℕ = c.args.t in
    let n : ℕ = length c.args.bits.now in
    let octets : List ℕ = c.args.octets.now in
    let piece : List ℕ = take c.steps_len-size.result octets in
    let found = c.finish.result in
    let bits : List ℕ = c.finish.new.bits in
    let same : c.match-starts.starts ≡ starts = elim c.match-starts.branch [
      | in-Some+then-goes_on+else-path-register w ↦ w.starts-is ∙ sym w.in-Some.is
      | in-Some+else-goes_on w ↦ w.starts-is ∙ sym w.in-Some.is
      | in_default w ↦ w.starts-is
    ] in
    let viewed : steps_size shape.rate t n ≡ steps_size c.args.self.now.rate t n =
    ap (λ (w : WindowShape). steps_size w.rate t n) c.self.view_is in
    let long : length piece ≡ steps_size shape.rate t n =
    length-take-le c.steps_len-size.result octets (omega (arith, c.steps_len-size.ensures, viewed, c.requires.octets))
    ∙ c.steps_len-size.ensures in
    let there : IsPathFrom shape.rate shape.invert t n before piece found.start bits found.metric =
    subst (λ (m : ℕ). IsPathFrom shape.rate shape.invert t m before piece found.start bits found.metric)
    (c.finish.auto.bits ∙ c.match-starts.auto.bits)
    (subst (λ (u : ℕ). IsPathFrom shape.rate shape.invert u (length bits) before piece found.start bits found.metric)
    c.begin.ensures.place c.finish.ensures.path) in
    let some = some_start starts c.requires.start in
    let bytes : All (λ y. y < 256) octets = All-from_get_or (λ y. y < 256) octets 0
    (λ i lt. omega (arith, c.type_inv.octets i)) in
    let keep : shape.keep ≡ c.args.self.now.keep = ap (λ (w : WindowShape). w.keep) c.self.view_is in
    let ahead : shape.ahead ≡ c.args.self.now.ahead = ap (λ (w : WindowShape). w.ahead) c.self.view_is in
    let firsts = subst (λ (o : Option ℕ). AreFirsts (starts_from o) before) same
    c.begin.ensures.firsts in
    let best = path_from_firsts (starts_from starts) shape.rate shape.invert t n before piece found.start bits found.metric
    firsts some.0 some.1 some.2 long (All-take (λ y. y < 256) c.steps_len-size.result octets bytes)
    (omega (arith, long, keep, ahead, c.requires.steps, c.self.invariant.2, steps_size-most shape.rate t n)) there in
    let P : List ℕ → Type 0 = λ v. IsBest (starts_from starts) shape.rate shape.invert t v found.start bits
    × (found.metric ≡ cost (path shape.rate shape.invert t found.start bits) v) in
    let both = subst P (ap (λ (m : ℕ). take m octets) c.steps_len-size.ensures) best in
    subst (λ (w : WindowShape). IsBlock w.rate w.invert c.args.self.now.keep c.args.self.now.ahead starts t remaining
    octets (undropped_block found.start n c.args.kept found.metric bits found.end_state)) c.self.view_is
    (record {
      steps = steps;
      kept = kept;
      best = both.0;
      metric = both.1;
      end_state = c.finish.ensures.end_state;
      dropped = refl;
    })
