use Rattle.tm_rs_code.proofs.Halves.{length-product, places_fit, product_at}
use Rattle.tm_rs_code.proofs.lanes.product.Goals as goal

pub swizzle : goal.swizzle
swizzle c = places_fit c.args.lows c.fits-lows.0 c.requires.lows

pub swizzle-2 : goal.swizzle-2
swizzle-2 c = places_fit c.args.highs c.fits-highs.0 c.requires.highs

pub returns-clause-long : goal.returns-clause-long
returns-clause-long c = length-product c.args.low c.args.high c.args.lows c.args.highs c.fits-lows.0 c.fits-highs.0

pub returns-clause-value : goal.returns-clause-value
returns-clause-value c factor low high m lt =
    product_at factor c.args.low c.args.high c.args.lows c.args.highs c.fits-lows.0 c.fits-highs.0 c.requires.lows
    c.requires.highs low high m lt
