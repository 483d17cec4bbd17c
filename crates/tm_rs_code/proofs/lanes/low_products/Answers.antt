use Rattle.std.proofs.Common.{◌∙◌, ap, get_or, [], ℕ}
use Rattle.tm_rs_code.specs.declared.lanes.products.TheConstants.{LOW}
use Rattle.tm_rs_code.proofs.Halves.{low_is}
use Rattle.tm_rs_code.proofs.lanes.low_products.Goals as goal

pub returns : goal.returns
returns c = ap (λ (j : ℕ). get_or LOW j []) c.from.ensures ∙ low_is c.args.factor c.ranges.factor.fits
