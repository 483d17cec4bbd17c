use Rattle.std.proofs.Common.{◌∙◌, ap, get_or, [], ℕ}
use Rattle.tm_rs.specs.declared.rs16.rows.TheConstants.{ROWS}
use Rattle.tm_rs.proofs.Generators.{row_16}
use Rattle.tm_rs.proofs.rs16.row_of.Goals as goal

pub returns : goal.returns
returns c = ap (λ (j : ℕ). get_or ROWS j []) c.from.ensures ∙ row_16 c.args.factor c.ranges.factor.fits
