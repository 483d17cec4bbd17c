use Rattle.std.proofs.Common.{◌≡◌, ◌∙◌, ap, length, arith, refl, sym}
use Rattle.tm_rs.specs.declared.rs8.TheConstants.{GENERATOR}
use Rattle.tm_rs_code.proofs.Register.{length-shift}
use Rattle.tm_rs.proofs.Generators.{generator_8}
use Rattle.tm_rs.proofs.Registers.{starts, takes_next}
use Rattle.tm_rs.proofs.rs8.remainder.Goals as goal

pub loop-symbol-init : goal.loop-symbol-init
loop-symbol-init c = record { size = refl; systematic = starts 8 }

pub loop-symbol-preserved : goal.loop-symbol-preserved
loop-symbol-preserved c =
    let size = c.loop-symbol.invariant.size in
    let same : length GENERATOR ≡ length c.loop-symbol.register = generator_8.degree ∙ sym size in
    record {
      size =
          ap length c.shift_in-register.ensures ∙ length-shift GENERATOR c.number.result c.loop-symbol.register same
          ∙ size;
      systematic =
          takes_next 8 GENERATOR generator_8 c.args.info.now c.loop-symbol.symbol-index c.loop-symbol.register
          c.shift_in-register.result c.number.result (omega arith)
          c.number.ensures.value (omega (arith, c.number.ensures.value, c.number.ensures.small)) size
          c.shift_in-register.ensures c.loop-symbol.invariant.systematic;
    }
