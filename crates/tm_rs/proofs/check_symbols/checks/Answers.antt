use Rattle.std.proofs.Common.{◌≡◌, ◌∙◌, sym, arith, inl, inr}
use Rattle.tm_gf256.specs.Poly.{numbers}
use Rattle.tm_gf256.proofs.PolyLemmas.{length-numbers}
use Rattle.tm_rs.proofs.Registers.{encoded}
use Rattle.tm_rs.proofs.check_symbols.checks.Goals as goal

pub returns-then-e-eq16-clause-codeword : goal.returns-then-e-eq16-clause-codeword
returns-then-e-eq16-clause-codeword c =
    let is : c.args.params.now.e ≡ 16 = sym c.e.ensures.value ∙ c.if-e-eq16.true in
    encoded 16 c.args.params.now.e (numbers c.args.info.now) c.remainder.result (numbers c.store.new.out) is
    (omega (arith, length-numbers c.args.info.now, c.e.ensures.range)) c.store.ensures c.remainder.ensures.systematic

pub returns-else-e-eq16-clause-codeword : goal.returns-else-e-eq16-clause-codeword
returns-else-e-eq16-clause-codeword c =
    let is : c.args.params.now.e ≡ 8 = elim c.e.ensures.strength
    [ inl long ↦ absurd (c.if-e-eq16.false (c.e.ensures.value ∙ long)) | inr short ↦ short ] in
    encoded 8 c.args.params.now.e (numbers c.args.info.now) c.remainder-else-e-eq16.result
    (numbers c.store-else-e-eq16.new.out) is
    (omega (arith, length-numbers c.args.info.now, c.e.ensures.range)) c.store-else-e-eq16.ensures
    c.remainder-else-e-eq16.ensures.systematic
