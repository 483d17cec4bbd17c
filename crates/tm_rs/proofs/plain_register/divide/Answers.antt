use Rattle.std.proofs.Common.{◌∙◌, arith, ap, refl, ℕ}
use Rattle.std.specs.Prelude.{replicate}
use Rattle.tm_gf256.specs.declared.Gf.{Gf}
use Rattle.tm_gf256.specs.Poly.{entry, numbers}
use Rattle.tm_gf256.proofs.PolyLemmas.{length-numbers}
use Rattle.tm_rs.proofs.Registers.{starts_plain, takes_next, all_taken}
use Rattle.tm_rs.proofs.plain_register.divide.Goals as goal

pub loop-symbol-init : goal.loop-symbol-init
loop-symbol-init c e gen =
    starts_plain e c.args.generator.now gen c.fill.new.self
    (c.fill.ensures.after (λ y same. same) ∙ ap (λ (n : ℕ). replicate {A = Gf} n (record { 0 = 0 })) c.requires.room)

pub loop-symbol-preserved : goal.loop-symbol-preserved
loop-symbol-preserved c e gen =
    takes_next e c.args.generator.now gen c.args.info.now c.loop-symbol.symbol-index (numbers c.loop-symbol.register)
    (numbers c.shift_in.new.register)
    (entry c.args.info.now c.loop-symbol.symbol-index) (omega arith) refl c.number-range.ensures.small
    (length-numbers c.loop-symbol.register ∙ (omega (arith, c.requires.room, gen.degree))) c.shift_in.ensures
    (c.loop-symbol.invariant e gen)

pub returns : goal.returns
returns c e gen =
    all_taken e c.loop-symbol.symbol-index c.args.info.now (numbers c.loop-symbol.register) (omega arith)
    (c.loop-symbol.invariant e gen)
