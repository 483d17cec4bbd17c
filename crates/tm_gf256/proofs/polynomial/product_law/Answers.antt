use Rattle.tm_gf256.proofs.ProductLaw.{value_at-product}
use Rattle.tm_gf256.proofs.polynomial.product_law.Goals as goal

pub returns : goal.returns
returns c = value_at-product
