use Rattle.std.proofs.Common.{◌≡◌, ◌+◌, ◌*◌, ℕ, get_or, ap, sym, ◌∙◌, arith}
use Rattle.tm_base.specs.Bits.{bits_of, low_bits}
use Rattle.tm_sync.proofs.PackedBits.{first-four, four-octets}
use Rattle.tm_sync.proofs.recent_bits.first_word.Goals as goal

pub returns : goal.returns
returns c =
    let octets = c.args.octets.now in
    let a : ℕ = get_or octets 0 0 in
    let b : ℕ = get_or octets 1 0 in
    let d : ℕ = get_or octets 2 0 in
    let e : ℕ = get_or octets 3 0 in
    let is : c.from_be_bytes.result ≡ ((a * 256 + b) * 256 + d) * 256 + e =
    omega (arith, c.from_be_bytes.ensures) in
    ap (low_bits 32) is
    ∙ four-octets a b d e (c.type_inv.octets 1).fits (c.type_inv.octets 2).fits
    (c.type_inv.octets 3).fits
    ∙ ap bits_of (sym (first-four octets c.requires))
