use Rattle.std.proofs.Common.{◌+◌, ◌≤◌, ◌^◌, ℕ, List, length, subst}
use Rattle.tm_inner.specs.InnerDecoding.{InnerDecoding}
use Rattle.tm_inner.specs.Phase.{IsSettled}
use Rattle.tm_inner.proofs.HandedBits.{many-settled}
use Rattle.tm_inner.proofs.decoder.InnerDecoder.within.Goals as goal

pub returns-clause-settles : goal.returns-clause-settles
returns-clause-settles c =
    subst (λ (d : InnerDecoding). (octets : List ℕ) → 2 ^ 60 ≤ length octets + 1 → IsSettled d.config octets)
    c.self.view_is (many-settled c.self.inside.config c.self.invariant.2)
