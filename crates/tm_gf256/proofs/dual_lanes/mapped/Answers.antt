use Rattle.tm_gf256.proofs.Halves.{high_fit, low_fit, octets_small, mapped_by_halves}
use Rattle.tm_gf256.proofs.dual_lanes.mapped.Goals as goal

pub swizzle-by_low : goal.swizzle-by_low
swizzle-by_low c = low_fit c.args.octets c.fits-octets.0

pub swizzle-by_high : goal.swizzle-by_high
swizzle-by_high c = high_fit c.args.octets c.fits-octets.0 (octets_small c.args.octets c.fits-octets.0 c.fits-octets.1)

pub returns : goal.returns
returns c f are =
    mapped_by_halves f c.args.low c.args.high c.args.octets are c.fits-octets.0
    (octets_small c.args.octets c.fits-octets.0 c.fits-octets.1)
