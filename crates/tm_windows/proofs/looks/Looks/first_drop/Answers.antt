use Rattle.std.proofs.Common.{◌≤◌, ◌∙◌, ℕ, sym, arith, below_more}
use Rattle.tm_windows.specs.Looks.{IsUndroppedAt}
use Rattle.tm_windows.proofs.FirstDrops.{fewer_looks, fewer_steps}
use Rattle.tm_windows.proofs.looks.Looks.first_drop.Goals as goal

pub is_undropped-requires-clause-room : goal.is_undropped-requires-clause-room
is_undropped-requires-clause-room g c =
    fewer_looks c.args.self.now _ c.args.last (omega (arith, c.loop-number-test.true)) c.requires.room

pub is_undropped-requires-clause-few : goal.is_undropped-requires-clause-few
is_undropped-requires-clause-few g c =
    fewer_steps c.args.self.now.t c.args.self.now.shape.keep _ c.args.last _
    (omega (arith, c.loop-number-test.true)) c.requires.few

pub loop-number-preserved : goal.loop-number-preserved
loop-number-preserved g c =
    let l = c.args.self.now in
    let before = c.loop-number.invariant.none in
    let here = c.is_undropped.ensures.0 c.if-not-is_undropped.false in
    record {
      none = λ k from less. below_more (λ (n : ℕ). c.args.first ≤ n → IsUndroppedAt l n) c.loop-number.number
          (λ n below least. before n least below) (λ least. here) k less from;
    }

pub returns-then-not-is_undropped : goal.returns-then-not-is_undropped
returns-then-not-is_undropped g c = record {
  within = omega arith;
  none = c.loop-number.invariant.none;
  dropped = λ below undropped. absurd (let both = sym c.if-not-is_undropped.true ∙ c.is_undropped.ensures.1 undropped
      in cc);
}
