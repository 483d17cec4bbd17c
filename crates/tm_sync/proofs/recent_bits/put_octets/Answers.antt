use Rattle.std.proofs.Common.{◌≡◌, ◌+◌, ◌-◌, ◌*◌, ◌/◌, ◌%◌, ◌^◌, ◌<◌, ℕ, Bool, List, ◌++◌, length, take, drop, get_or, set, ap, sym, ◌∙◌, arith, append_assoc, length-append, length-drop, length-set}
use borrow.Rule.Slice.PartMut.{put_mid}
use Rattle.std.proofs.lemmas.List.{take-set, get_or-set_same, length-take-le}
use Rattle.std.proofs.lemmas.Slice.{take-put_mid}
use Rattle.tm_base.specs.Bits.{bits_of, bits_of_octet, low_bits}
use Rattle.tm_base.proofs.Packing.{bits_of-append, bits_of-take}
use Rattle.tm_sync.proofs.PackedBits.{bits-up, octet-first, joined-first}
use Rattle.tm_sync.proofs.recent_bits.put_octets.Goals as goal

pub returns-then-shift-eq0-clause-bits : goal.returns-then-shift-eq0-clause-bits
returns-then-shift-eq0-clause-bits c =
    let room = c.args.room.now in
    let octets = c.args.octets.now in
    let to = c.args.to in
    let at : ℕ = to / 8 in
    let size : ℕ = length octets in
    let written : List ℕ = put_mid at (at + size - at) room c.copy_from_slice.new.self in
    let end : to + 8 * size ≡ 8 * (at + size) = omega (arith, c.if-shift-eq0.true) in
    let begin : 8 * at ≡ to = omega (arith, c.if-shift-eq0.true) in
    let same = ap (λ (l : List ℕ). length l) c.copy_from_slice.ensures.after in
    ap (λ n. take n (bits_of written)) end
    ∙ sym (bits_of-take (at + size) written)
    ∙ ap bits_of (take-put_mid at (at + size - at) room c.copy_from_slice.new.self (at + size)
    (omega arith)
    (omega (arith, c.requires)))
    ∙ bits_of-append (take at room) c.copy_from_slice.new.self
    ∙ (λ i. (bits_of-take at room ∙ ap (λ n. take n (bits_of room)) begin) i
    ++ bits_of (c.copy_from_slice.ensures.after i))

pub returns-clause-bits : goal.returns-clause-bits
returns-clause-bits c =
    let room = c.args.room.now in
    let octets = c.args.octets.now in
    let joint = c.join-last.new.joint in
    let to = c.args.to in
    let at : ℕ = to / 8 in
    let shift : ℕ = to % 8 in
    let size : ℕ = length octets in
    let begun : ℕ = get_or room at 0 / 2 ^ (8 - shift) in
    let written : List ℕ = put_mid at (at + size - at) room joint in
    let all : List ℕ = set written (at + size) c.joined.result in
    let end : to + 8 * size ≡ 8 * (at + size) + shift = omega arith in
    let begin : 8 * at + shift ≡ to = omega arith in
    let count : at + size - at ≡ size = omega arith in
    let there = length-drop at room in
    let before = length-take-le at room (omega (arith, c.requires)) in
    let long : length joint ≡ size = c.join-last.ensures.length
    ∙ ap (λ n. length (take n (drop at room))) count
    ∙ length-take-le size (drop at room) (omega (arith, c.requires)) in
    let rest = length-drop (at + size - at) (drop at room) in
    let both = length-append joint (drop (at + size - at) (drop at room)) in
    let three = length-append (take at room) (joint ++ drop (at + size - at) (drop at room)) in
    let within : at + size < length written = omega (arith, c.requires, c.if-shift-eq0.false) in
    let same = length-set written (at + size) c.joined.result in
    let last : List Bool = low_bits shift c.join-last.result in
    ap (λ n. take n (bits_of all)) end
    ∙ bits-up all (at + size) shift (omega arith) (omega arith)
    ∙ (λ i. bits_of ((take-set written (at + size) c.joined.result
    ∙ take-put_mid at (at + size - at) room joint (at + size) (omega arith)
    (omega (arith, c.requires))) i)
    ++ (ap (λ n. take shift (bits_of_octet n))
    (get_or-set_same written (at + size) c.joined.result 0 within)
    ∙ joined-first shift c.join-last.result c.joined.result (omega arith) c.joined.ensures) i)
    ∙ ap (λ l. l ++ last) (bits_of-append (take at room) joint)
    ∙ append_assoc (bits_of (take at room)) (bits_of joint) last
    ∙ ap (λ l. bits_of (take at room) ++ l) (sym c.join-last.ensures.bits)
    ∙ sym (append_assoc (bits_of (take at room)) (low_bits shift begun) (bits_of octets))
    ∙ ap (λ l. l ++ bits_of octets) (ap (λ l. bits_of (take at room) ++ l)
    (sym (octet-first shift (get_or room at 0) (omega arith)))
    ∙ sym (bits-up room at shift (omega arith) (omega (arith, c.requires, c.if-shift-eq0.false)))
    ∙ ap (λ n. take n (bits_of room)) begin)
