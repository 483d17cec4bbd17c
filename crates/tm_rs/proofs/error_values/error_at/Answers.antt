use Rattle.std.proofs.Common.{sym, ◌∙◌}
use Rattle.tm_gf256.specs.Poly.{entry, numbers}
use Rattle.tm_rs_code.proofs.Covering.{no_symbol_there}
use Rattle.tm_rs.proofs.error_values.error_at.Goals as goal

pub returns-then-value-ne0 : goal.returns-then-value-ne0
returns-then-value-ne0 c = λ u w h.
    sym (no_symbol_there c.args.e (entry c.args.syndromes.now)
    (numbers c.args.locator.now) u w h c.args.p c.requires.inside
    (λ z. c.if-value-ne0.true (c.requires.value ∙ z)))
