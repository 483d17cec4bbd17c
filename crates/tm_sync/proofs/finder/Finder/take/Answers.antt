use Rattle.std.proofs.Common.{◌≡◌, ◌+◌, ◌∙◌, ◌∷◌, ◌++◌, ◌⊎◌, inl, inr, true, false, Some, sym, ap, arith}
use Rattle.tm_sync.specs.Rescan.{is_inside}
use Rattle.tm_sync.specs.Finding.{Finding, Recent, kept_at, places_left}
use Rattle.tm_sync.proofs.Ahead.{bridged-few, dropped-left, taken-left}
use Rattle.tm_sync.proofs.finder.Finder.take.Goals as goal

pub before_next-requires : goal.before_next-requires
before_next-requires c = λ bridged.
    bridged-few c.args.self.now c.args.recent.now.bits c.args.found c.requires.found bridged

pub returns-then-not-sound-clause-left : goal.returns-then-not-sound-clause-left
returns-then-not-sound-clause-left c = λ left says more few tells.
    let f = c.args.self.now in
    let moved = c.pass.ensures.passed few in
    dropped-left f c.pass.new.self c.args.recent.now.bits more c.args.found says c.args.sound
    c.requires.found tells
    (sym c.is_inside.ensures ∙ c.if-is_inside.true) c.if-not-sound.true c.pass.ensures.rules
    c.pass.ensures.columns moved.0 moved.1
    ∙ ap (λ (r : Recent). places_left c.pass.new.self says (r.bits ++ more))
    (sym c.pass.ensures.bits)

pub returns-clause-taken : goal.returns-clause-taken
returns-clause-taken c = λ taken says more few tells.
    let f = c.args.self.now in
    let view = c.self.view_is in
    let after = c.pass-2.new.self in
    let passed : c.self.inside.passed ≡ f.passed = ap (λ (f : Finding). f.passed) view in
    let moved = c.pass-2.ensures.passed (omega arith) in
    let end : c.self.inside.passed + c.unit.result ≡ f.passed + 32 + f.rules.block_bits =
    omega (arith, c.unit.ensures.value) in
    let is = c.is_inside.ensures in
    let so : ((is_inside f.passed f.last ≡ true) × (c.args.sound ≡ true))
    ⊎ (is_inside f.passed f.last ≡ false) =
    elim c.else-is_inside.either [
      | inl w ↦ inl (sym is ∙ w.0, w.1)
      | inr out ↦ inr (sym is ∙ out)
    ] in
    taken-left f after c.args.recent.now.bits more c.args.found says c.args.sound c.requires.found
    tells so
    (c.pass-2.ensures.rules ∙ ap (λ (f : Finding). f.rules) view)
    (c.pass-2.ensures.columns ∙ ap (λ (f : Finding). f.columns) view)
    (moved.0 ∙ ap (λ n. n + 1) passed)
    (moved.1 ∙ (λ i. kept_at after.passed (Some (record {
      end = end i;
      before = c.before_next.ensures i;
      sound = c.args.sound;
    }))))
    ∙ ap (λ (r : Recent). c.args.found ∷ places_left after says (r.bits ++ more))
    (sym c.pass-2.ensures.bits)
