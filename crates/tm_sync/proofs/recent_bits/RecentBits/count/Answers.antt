use Rattle.std.proofs.Common.{ap, sym, ◌∙◌, length}
use Rattle.tm_sync.specs.Finding.{Recent}
use Rattle.tm_sync.proofs.PackedBits.{length-part}
use Rattle.tm_sync.proofs.recent_bits.RecentBits.count.Goals as goal

pub returns-clause-value : goal.returns-clause-value
returns-clause-value c =
    let r = c.self.inside in
    sym (length-part r.room.items r.from r.to c.self.invariant.1)
    ∙ ap (λ (r : Recent). length r.bits) c.self.view_is
