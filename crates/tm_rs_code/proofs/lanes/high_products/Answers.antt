use Rattle.std.proofs.Common.{◌∙◌, ap, get_or, [], ℕ}
use Rattle.tm_rs_code.specs.declared.lanes.products.TheConstants.{HIGH}
use Rattle.tm_rs_code.proofs.Halves.{high_is}
use Rattle.tm_rs_code.proofs.lanes.high_products.Goals as goal

pub returns : goal.returns
returns c = ap (λ (j : ℕ). get_or HIGH j []) c.from.ensures ∙ high_is c.args.factor c.ranges.factor.fits
