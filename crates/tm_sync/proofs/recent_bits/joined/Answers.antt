use Rattle.std.proofs.Common.{◌≡◌, ◌+◌, ◌*◌, ◌/◌, ◌%◌, ◌^◌, ◌++◌, ap, ◌∙◌, sym}
use Rattle.std.proofs.lemmas.Nat.{and_mask}
use Rattle.tm_base.specs.Bits.{bits_of_octet, low_bits}
use Rattle.tm_sync.proofs.PackedBits.{joined-bits}
use Rattle.tm_sync.proofs.recent_bits.joined.Goals as goal

pub returns : goal.returns
returns c =
    let count = c.args.count in
    let next = c.args.next in
    let octet : c.from.result ≡ c.args.octet = c.from.ensures in
    let other : c.from-2.result ≡ next = c.from-2.ensures in
    joined-bits count c.args.octet next c.requires c.ranges.next.fits
    ∙ sym (ap (λ n. bits_of_octet n ++ low_bits count next)
    (and_mask ((c.from.result * 256 + c.from-2.result) / 2 ^ count) 8
    ∙ (λ i. (octet i * 256 + other i) / 2 ^ count % 256)))
