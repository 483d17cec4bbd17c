use Rattle.std.proofs.Common.{◌≡◌, ◌+◌, ◌-◌, take, drop, length, ap, sym, ◌∙◌, arith}
use Rattle.tm_base.specs.Bits.{bits_of, number_of}
use Rattle.tm_sync.specs.Finding.{Recent}
use Rattle.tm_sync.proofs.PackedBits.{length-part, part-of}
use Rattle.tm_sync.proofs.recent_bits.RecentBits.word.Goals as goal

pub returns : goal.returns
returns c =
    let r = c.self.inside in
    let count : length c.args.self.now.bits ≡ r.to - r.from =
    ap (λ (v : Recent). length v.bits) (sym c.self.view_is)
    ∙ length-part r.room.items r.from r.to c.self.invariant.1 in
    c.word_at.ensures
    ∙ ap (λ l. number_of (take 32 (drop (r.from + c.args.at) (bits_of l)))) c.as_slice.ensures.value
    ∙ ap number_of (part-of r.room.items r.from r.to c.args.at 32 (omega arith)
    ∙ ap (λ (v : Recent). take 32 (drop c.args.at v.bits)) c.self.view_is)
