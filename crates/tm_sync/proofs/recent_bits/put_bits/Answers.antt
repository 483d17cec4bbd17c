use Rattle.std.proofs.Common.{◌≡◌, ◌+◌, ◌-◌, ◌*◌, ◌/◌, ◌<◌, ◌≤◌, ℕ, Bool, List, ◌++◌, length, take, drop, get_or, ap, sym, ◌∙◌, arith, append_assoc, length-drop}
use Rattle.std.proofs.lemmas.List.{append-nil, length-take-le, take-take, take_rest}
use Rattle.std.proofs.Math.Seq.{take-append-add}
use Rattle.tm_base.specs.Bits.{bits_of, bits_of_octet, low_bits}
use Rattle.tm_base.proofs.Packing.{length-bits_of, length-low_bits, bits_of-drop}
use Rattle.tm_sync.proofs.PackedBits.{bits-from, joined-first}
use Rattle.tm_sync.proofs.recent_bits.put_bits.Goals.{After-put_octets-2, then-begun-gt0, else-begun-gt0}
use Rattle.tm_sync.proofs.recent_bits.put_bits.Goals as goal

-- the bits of the octet under way stand in the room
begun-bits : (c : After-put_octets-2)
    → take (c.args.to + (8 * c.div_ceil-first.result - c.args.from)) (bits_of c.if-begun-gt0.room)
    ++ bits_of (drop c.div_ceil-first.result c.args.octets.now)
    ≡ take c.args.to (bits_of c.args.room.now) ++ drop c.args.from (bits_of c.args.octets.now)
begun-bits c =
    let first = c.div_ceil-first.result in
    let octets = c.args.octets.now in
    let room = c.args.room.now in
    let to = c.args.to in
    let from = c.args.from in
    let begun : ℕ = 8 * first - from in
    let ceil : first ≡ (from + 7) / 8 = omega (arith, c.div_ceil-first.ensures) in
    elim c.if-begun-gt0.branch [
      | then-begun-gt0 w ↦
          let some : 0 < begun = w.if-begun-gt0.true in
          let most : begun ≤ 8 = omega arith in
          let before : ℕ = first - 1 in
          let next : before + 1 ≡ first = omega arith in
          let octet : ℕ = get_or octets before 0 in
          let rest : List Bool = bits_of (drop first octets) in
          let joined : List Bool = bits_of_octet w.joined.result in
          let size = length-low_bits 8 w.joined.result in
          let all = length-bits_of room in
          let long : length (take to (bits_of room)) ≡ to = length-take-le to (bits_of room)
          (omega (arith, c.requires.room)) in
          let parts : from ≡ 8 * before + (8 - begun) = omega arith in
          let same : 8 - (8 - begun) ≡ begun = omega arith in
          let within : before < length octets = omega (arith, c.requires.from) in
          let written : take (to + begun) (bits_of w.put_octets.new.room)
          ≡ take to (bits_of room) ++ low_bits begun octet =
          sym (take-take (to + begun) (to + 8) (bits_of w.put_octets.new.room) (omega arith))
          ∙ ap (take (to + begun)) (w.put_octets.ensures.bits
          ∙ ap (λ l. take to (bits_of room) ++ l) (append-nil joined))
          ∙ ap (λ n. take (n + begun) (take to (bits_of room) ++ joined)) (sym long)
          ∙ take-append-add (take to (bits_of room)) joined begun
          ∙ ap (λ l. take to (bits_of room) ++ l)
          (joined-first begun octet w.joined.result most w.joined.ensures) in
          ap (λ l. take (to + begun) (bits_of l) ++ rest) w.room-is
          ∙ ap (λ l. l ++ rest) written
          ∙ append_assoc (take to (bits_of room)) (low_bits begun octet) rest
          ∙ ap (λ l. take to (bits_of room) ++ l)
          (sym (ap (λ n. drop n (bits_of octets)) parts
          ∙ bits-from octets before (8 - begun) (omega arith) within
          ∙ (λ i. low_bits (same i) octet ++ bits_of (drop (next i) octets))))
      | else-begun-gt0 w ↦
          let none : begun ≡ 0 = omega (arith, w.if-begun-gt0.false) in
          let whole : 8 * first ≡ from = omega arith in
          let here : to + 0 ≡ to = omega arith in
          (λ i. take (to + none i) (bits_of (w.room-is i)) ++ bits_of (drop first octets))
          ∙ (λ i. take (here i) (bits_of room)
          ++ (bits_of-drop first octets ∙ ap (λ n. drop n (bits_of octets)) whole) i)
    ]

pub returns-clause-bits : goal.returns-clause-bits
returns-clause-bits c =
    let first = c.div_ceil-first.result in
    let octets = c.args.octets.now in
    let to = c.args.to in
    let from = c.args.from in
    let ceil : first ≡ (from + 7) / 8 = omega (arith, c.div_ceil-first.ensures) in
    let begun : ℕ = 8 * first - from in
    let left = length-drop first octets in
    let rest = take_rest octets first in
    let size : length (take (length octets - first) (drop first octets)) ≡ length octets - first =
    ap (λ (l : List ℕ). length l) rest ∙ left in
    let end : to + (8 * length octets - from) ≡ to + begun + 8 * (length octets - first) =
    omega (arith, c.requires.from) in
    ap (λ n. take n (bits_of c.put_octets-2.new.room))
    (end ∙ ap (λ n. to + begun + 8 * n) (sym size))
    ∙ c.put_octets-2.ensures.bits
    ∙ ap (λ l. take (to + begun) (bits_of c.if-begun-gt0.room) ++ bits_of l) rest
    ∙ begun-bits (goal.at.returns-clause-bits c).After-put_octets-2
