use Rattle.std.proofs.Common.{◌∙◌, ap, get_or, [], ℕ}
use Rattle.tm_rs.specs.declared.rs8.rows.TheConstants.{ROWS}
use Rattle.tm_rs.proofs.Generators.{row_8}
use Rattle.tm_rs.proofs.rs8.row_of.Goals as goal

pub returns : goal.returns
returns c = ap (λ (j : ℕ). get_or ROWS j []) c.from.ensures ∙ row_8 c.args.factor c.ranges.factor.fits
