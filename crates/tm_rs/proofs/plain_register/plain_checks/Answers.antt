use Rattle.std.proofs.Common.{◌≡◌, ◌∙◌, sym, subst, refl, arith, inl, inr, ℕ, ◌++◌}
use Rattle.tm_gf256.specs.Poly.{numbers}
use Rattle.tm_gf256.proofs.PolyLemmas.{length-numbers}
use Rattle.tm_rs_code.specs.Code.{IsSystematic}
use Rattle.tm_rs.proofs.Generators.{generator_16, generator_8}
use Rattle.tm_rs.proofs.Registers.{encoded}
use Rattle.tm_rs.proofs.plain_register.plain_checks.Goals as goal

pub returns-then-e-eq16-clause-systematic : goal.returns-then-e-eq16-clause-systematic
returns-then-e-eq16-clause-systematic c =
    subst (λ (e : ℕ). IsSystematic e (numbers c.args.info.now)
    (numbers c.args.info.now ++ numbers c.divide.new.register)) (sym (sym c.e.ensures.value ∙ c.if-e-eq16.true))
    (c.divide.ensures 16 generator_16)

pub returns-then-e-eq16-clause-codeword : goal.returns-then-e-eq16-clause-codeword
returns-then-e-eq16-clause-codeword c =
    let is : c.args.params.now.e ≡ 16 = sym c.e.ensures.value ∙ c.if-e-eq16.true in
    encoded 16 c.args.params.now.e (numbers c.args.info.now) (numbers c.divide.new.register)
    (numbers c.divide.new.register) is
    (omega (arith, length-numbers c.args.info.now, c.e.ensures.range)) refl (c.divide.ensures 16 generator_16)

pub returns-else-e-eq16-clause-systematic : goal.returns-else-e-eq16-clause-systematic
returns-else-e-eq16-clause-systematic c =
    let is : c.args.params.now.e ≡ 8 = elim c.e.ensures.strength
    [ inl long ↦ absurd (c.if-e-eq16.false (c.e.ensures.value ∙ long)) | inr short ↦ short ] in
    subst (λ (e : ℕ). IsSystematic e (numbers c.args.info.now)
    (numbers c.args.info.now ++ numbers c.divide-else-e-eq16.new.register)) (sym is)
    (c.divide-else-e-eq16.ensures 8 generator_8)

pub returns-else-e-eq16-clause-codeword : goal.returns-else-e-eq16-clause-codeword
returns-else-e-eq16-clause-codeword c =
    let is : c.args.params.now.e ≡ 8 = elim c.e.ensures.strength
    [ inl long ↦ absurd (c.if-e-eq16.false (c.e.ensures.value ∙ long)) | inr short ↦ short ] in
    encoded 8 c.args.params.now.e (numbers c.args.info.now) (numbers c.divide-else-e-eq16.new.register)
    (numbers c.divide-else-e-eq16.new.register) is
    (omega (arith, length-numbers c.args.info.now, c.e.ensures.range)) refl (c.divide-else-e-eq16.ensures 8 generator_8)
