use Rattle.std.proofs.Common.{◌≡◌, drop}
use Rattle.tm_channel.specs.Origins.{origin_at}
use Rattle.tm_channel.proofs.origins.octets_at.Given as goal

abbrev pub invariant-loop-origin : goal.invariant-loop-origin
invariant-loop-origin l = origin_at l.origins l.bit ≡ origin_at (drop l.origin-index l.origins) l.bit
