use Rattle.std.proofs.Common.{◌≡◌, ℕ, ◌+◌, ◌-◌, ◌*◌, ◌/◌, ◌%◌, ◌≤◌, Bool, List, take, drop, length, ap, sym, subst, ◌∙◌, arith}
use Rattle.std.proofs.lemmas.List.{drop-drop, take_rest}
use Rattle.tm_base.specs.Bits.{bits_of}
use Rattle.tm_sync.specs.Searching.{IsFirstMatch, NoneMatch}
use Rattle.tm_sync.proofs.NoneMatch.{none-more, first-more}
use Rattle.tm_sync.proofs.PackedBits.{bits-from-whole}
use Rattle.tm_sync.proofs.recent_bits.far_until.Goals as goal

pub returns-clause-first : goal.returns-clause-first
returns-clause-first c = λ rules tell.
    let room = c.args.room.now in
    let from = c.args.from in
    let first = c.far_bits-first.result in
    let octets = c.far_octets-octets.result in
    let bits : List Bool = drop from (bits_of room) in
    let few : first ≤ c.min.result = c.far_bits-first.ensures.most in
    let most = c.args.most in
    let at : ℕ = first + 8 * octets in
    let aligned : (8 - from % 8) % 8 ≤ first = c.if-first-aligned.false in
    let whole : (from + first) % 8 ≡ 0 = omega (arith, c.min.ensures) in
    let rest : bits_of (take (length room - (from + first) / 8) (drop ((from + first) / 8) room))
    ≡ drop first bits =
    ap bits_of (take_rest room ((from + first) / 8))
    ∙ sym (bits-from-whole room (from + first) whole)
    ∙ sym (drop-drop first from (bits_of room)) in
    let last : drop (from + at) (bits_of room) ≡ drop at bits =
    sym (drop-drop at from (bits_of room)) in
    first-more rules at (most - at) most c.far_bits.result bits
    (none-more rules first (8 * octets) bits (c.far_bits-first.ensures.first rules tell).none
    (subst (NoneMatch rules (8 * octets)) rest (c.far_octets-octets.ensures.far rules tell)))
    (subst (λ l. IsFirstMatch rules l (most - at) c.far_bits.result) last
    (c.far_bits.ensures.first rules tell))
    (omega (arith, c.far_octets-octets.ensures.count))
