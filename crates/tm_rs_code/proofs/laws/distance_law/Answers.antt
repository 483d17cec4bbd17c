use Rattle.std.proofs.Common.{arith}
use Rattle.tm_rs_code.proofs.DistanceLaw.{distance_law}
use Rattle.tm_rs_code.proofs.laws.distance_law.Goals as goal

pub returns : goal.returns
returns c e v w hv hw same short cv cw ne = omega (arith, distance_law e v w hv hw same short cv cw ne)
