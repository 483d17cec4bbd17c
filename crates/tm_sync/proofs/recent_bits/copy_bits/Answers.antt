use Rattle.std.proofs.Common.{◌≡◌, ◌+◌, ◌-◌, ◌*◌, ◌/◌, ◌%◌, ℕ, Bool, List, ◌++◌, length, take, drop, get_or, ap, sym, ◌∙◌, arith}
use Rattle.std.proofs.lemmas.List.{take_at}
use Rattle.tm_base.specs.Bits.{bits_of, low_bits}
use Rattle.tm_base.proofs.Packing.{length-bits_of, bits_of-take}
use Rattle.tm_sync.proofs.PackedBits.{bits-from, bits-from-whole, take-append-take}
use Rattle.tm_sync.proofs.recent_bits.copy_bits.Goals as goal

pub returns-then-shift-eq0-clause-bits : goal.returns-then-shift-eq0-clause-bits
returns-then-shift-eq0-clause-bits c =
    let room = c.args.room.now in
    let first : ℕ = c.args.at / 8 in
    let size : ℕ = length c.args.octets.now in
    let count : first + size - first ≡ size = omega arith in
    ap bits_of (c.copy_from_slice.ensures.after ∙ ap (λ n. take n (drop first room)) count)
    ∙ bits_of-take size (drop first room)
    ∙ ap (take (8 * size)) (sym (bits-from-whole room c.args.at c.if-shift-eq0.true))

pub returns-clause-bits : goal.returns-clause-bits
returns-clause-bits c =
    let room = c.args.room.now in
    let first : ℕ = c.args.at / 8 in
    let shift : ℕ = c.args.at % 8 in
    let size : ℕ = length c.args.octets.now in
    let begun : List Bool = low_bits (8 - shift) (get_or room first 0) in
    let rest : List ℕ = drop (first + 1) room in
    let last : List Bool = low_bits (8 - shift) c.join.result in
    let count : first + size + 1 - (first + 1) ≡ size = omega arith in
    let long : length (bits_of c.join.new.joint) ≡ 8 * size = length-bits_of c.join.new.joint
    ∙ ap (λ n. 8 * n) c.join.ensures.length in
    let parts : 8 * first + shift ≡ c.args.at = omega arith in
    sym (take_at (bits_of c.join.new.joint) last (8 * size) long)
    ∙ ap (take (8 * size)) (sym c.join.ensures.bits
    ∙ ap (λ n. begun ++ bits_of (take n rest)) count
    ∙ ap (λ l. begun ++ l) (bits_of-take size rest))
    ∙ take-append-take begun (bits_of rest) (8 * size) (8 * size) (omega arith)
    ∙ ap (take (8 * size)) (sym (bits-from room first shift (omega arith) (omega arith))
    ∙ ap (λ n. drop n (bits_of room)) parts)
