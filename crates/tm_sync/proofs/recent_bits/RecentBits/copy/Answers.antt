use Rattle.std.proofs.Common.{◌≡◌, ◌+◌, ◌-◌, ◌*◌, ℕ, take, drop, length, ap, sym, ◌∙◌, arith}
use Rattle.tm_base.specs.Bits.{bits_of}
use Rattle.tm_sync.specs.Finding.{Recent}
use Rattle.tm_sync.proofs.PackedBits.{length-part, part-of}
use Rattle.tm_sync.proofs.recent_bits.RecentBits.copy.Goals as goal

pub returns-clause-bits : goal.returns-clause-bits
returns-clause-bits c =
    let r = c.self.inside in
    let size : ℕ = 8 * length c.args.octets.now in
    let count : length c.args.self.now.bits ≡ r.to - r.from =
    ap (λ (v : Recent). length v.bits) (sym c.self.view_is)
    ∙ length-part r.room.items r.from r.to c.self.invariant.1 in
    c.copy_bits.ensures.bits
    ∙ ap (λ l. take size (drop (r.from + c.args.at) (bits_of l))) c.as_slice.ensures.value
    ∙ part-of r.room.items r.from r.to c.args.at size (omega arith)
    ∙ ap (λ (v : Recent). take size (drop c.args.at v.bits)) c.self.view_is
